use Rattle.std.specs.Prelude.{◌≡◌}
use Rattle.flow_graph.specs.Parts.{AreNextBlocks, in_order}
use Rattle.point_tables.specs.Targets.{target_numbers}
use Rattle.point_tables.proofs.CutLemmas.{if_ok}
use Rattle.flow_graph.proofs.PartLemmas.{next_are}
use Rattle.flow_graph.proofs.parts.next_blocks.Goals as goal

pub returns : goal.returns
returns c =
    if_ok c.in_order.result (λ next. next ≡ in_order c.block_at.result c.block_at-2.result)
    (AreNextBlocks c.args.firsts.now (target_numbers c.args.targets))
    (λ next e. next_are c.args.firsts.now next c.args.targets c.block_at.result c.block_at-2.result c.requires.rising c.block_at.ensures
    c.block_at-2.ensures e) c.in_order.ensures
