use Rattle.std.proofs.Common.{◌∙◌, ◌+◌, [], subst, get_or, take, List, ℕ}
use Rattle.std.specs.Prelude.{Contains}
use Rattle.control_flow.specs.Instructions.{instruction_at}
use Rattle.flow_graph.specs.Parts.{IsBlockOf}
use Rattle.flow_graph.proofs.PartLemmas.{item_is, list_in}
use Rattle.point_tables.proofs.PointwiseLemmas.{next_front, one_pointwise}
use Rattle.flow_graph.proofs.parts.blocks_of.Goals as goal

pub block_of-requires-clause-under : goal.block_of-requires-clause-under
block_of-requires-clause-under c i m =
    let xs = get_or c.args.chains.now c.loop-chain.chain-index [] in
    c.requires.under xs i (list_in c.args.chains.now c.loop-chain.chain-index c.loop-chain-test.true)
    (subst (λ (zs : List ℕ). Contains zs i)
    (c.as_slice.ensures ∙ item_is c.args.chains.now c.loop-chain.chain-index c.chain-item.result c.loop-chain-test.true c.chain-item.is) m)

pub loop-chain-preserved : goal.loop-chain-preserved
loop-chain-preserved c =
    one_pointwise (IsBlockOf (instruction_at c.args.image.now) c.args.points.now c.args.table.now c.args.firsts.now)
    (take c.loop-chain.chain-index c.args.chains.now) (take (c.loop-chain.chain-index + 1) c.args.chains.now)
    (get_or c.args.chains.now c.loop-chain.chain-index []) c.loop-chain.blocks c.push.new.self c.in_ok-block.block c.loop-chain.invariant
    (subst (λ (zs : List ℕ). IsBlockOf (instruction_at c.args.image.now) c.args.points.now c.args.table.now c.args.firsts.now zs
    c.in_ok-block.block)
    (c.as_slice.ensures ∙ item_is c.args.chains.now c.loop-chain.chain-index c.chain-item.result c.loop-chain-test.true c.chain-item.is)
    c.in_ok-block.ensures)
    (next_front c.args.chains.now c.loop-chain.chain-index [] c.loop-chain-test.true) c.in_ok-push.ensures.ok
