use Rattle.std.proofs.Common.{rules, ◌∙◌, refl, subst, arith, List, ℕ}
use Rattle.std.specs.Prelude.{Contains}
use Rattle.flow_graph.specs.declared.graph.BlockGraph.{BlockGraph}
use Rattle.flow_graph.proofs.GraphLemmas.{blocks_cut, blocks_few, entry_begins, firsts_few, firsts_rise, graph_from, numbers_under}
use Rattle.flow_graph.proofs.GraphLemmas.{point_clear}
use Rattle.flow_graph.proofs.GraphLemmas.{some_numbers}
use Rattle.flow_graph.proofs.building.graph_of.Goals as goal

pub firsts_of-requires : goal.firsts_of-requires
firsts_of-requires c = some_numbers c.args.image.now c.args.entry c.args.contexts.now c.args.points.now c.args.table.now c.args.live.now
    c.args.chains.now
    c.requires.ready

pub blocks_of-requires-clause-few : goal.blocks_of-requires-clause-few
blocks_of-requires-clause-few c =
    let few = firsts_few c.args.image.now c.args.entry c.args.contexts.now c.args.points.now c.args.table.now c.args.live.now
    c.args.chains.now
    c.requires.ready c.as_slice-firsts.result.now (c.as_slice-firsts.ensures ∙ c.in_ok-first_numbers.ensures) in
    let limit = c.requires.few in
    omega (arith, few, limit)

pub blocks_of-requires-clause-rising : goal.blocks_of-requires-clause-rising
blocks_of-requires-clause-rising c = firsts_rise c.args.image.now c.args.entry c.args.contexts.now c.args.points.now c.args.table.now
    c.args.live.now c.args.chains.now
    c.requires.ready c.as_slice-firsts.result.now (c.as_slice-firsts.ensures ∙ c.in_ok-first_numbers.ensures)

pub blocks_of-requires-clause-clear : goal.blocks_of-requires-clause-clear
blocks_of-requires-clause-clear c = point_clear c.args.image.now c.args.entry c.args.contexts.now c.args.points.now c.args.table.now
    c.args.live.now c.args.chains.now
    c.requires.ready

pub blocks_of-requires-clause-some : goal.blocks_of-requires-clause-some
blocks_of-requires-clause-some c = some_numbers c.args.image.now c.args.entry c.args.contexts.now c.args.points.now c.args.table.now
    c.args.live.now c.args.chains.now
    c.requires.ready

pub blocks_of-requires-clause-under : goal.blocks_of-requires-clause-under
blocks_of-requires-clause-under c = numbers_under c.args.image.now c.args.entry c.args.contexts.now c.args.points.now c.args.table.now
    c.args.live.now c.args.chains.now
    c.requires.ready

pub graph_points-requires-clause-under : goal.graph_points-requires-clause-under
graph_points-requires-clause-under c i m =
    ((c.in_ok-cast.ensures.exact i).0 (subst (λ (zs : List ℕ). Contains zs i) c.as_slice.ensures m)).0

pub graph_points-requires-clause-clear : goal.graph_points-requires-clause-clear
graph_points-requires-clause-clear c = point_clear c.args.image.now c.args.entry c.args.contexts.now c.args.points.now c.args.table.now
    c.args.live.now c.args.chains.now
    c.requires.ready

pub count_of-requires : goal.count_of-requires
count_of-requires c =
    let few = blocks_few c.args.image.now c.args.entry c.args.contexts.now c.args.points.now c.args.table.now c.args.live.now
    c.args.chains.now
    c.requires.ready c.as_slice-firsts.result.now (c.as_slice-firsts.ensures ∙ c.in_ok-first_numbers.ensures)
    c.in_ok-blocks.blocks c.in_ok-blocks.ensures in
    let limit = c.requires.few in
    omega (arith, few, limit)

pub entry_block-requires-clause-few : goal.entry_block-requires-clause-few
entry_block-requires-clause-few c =
    let few = firsts_few c.args.image.now c.args.entry c.args.contexts.now c.args.points.now c.args.table.now c.args.live.now
    c.args.chains.now
    c.requires.ready c.as_slice-firsts.result.now (c.as_slice-firsts.ensures ∙ c.in_ok-first_numbers.ensures) in
    let limit = c.requires.few in
    omega (arith, few, limit)

pub entry_block-requires-clause-rising : goal.entry_block-requires-clause-rising
entry_block-requires-clause-rising c = firsts_rise c.args.image.now c.args.entry c.args.contexts.now c.args.points.now c.args.table.now
    c.args.live.now c.args.chains.now
    c.requires.ready c.as_slice-firsts.result.now (c.as_slice-firsts.ensures ∙ c.in_ok-first_numbers.ensures)

pub entry_block-requires-clause-there : goal.entry_block-requires-clause-there
entry_block-requires-clause-there c =
    (entry_begins c.args.image.now c.args.entry c.args.contexts.now c.args.points.now c.args.table.now c.args.live.now c.args.chains.now
    c.requires.ready c.as_slice-firsts.result.now (c.as_slice-firsts.ensures ∙ c.in_ok-first_numbers.ensures)
    c.args.first c.requires.first c.requires.alive).2

pub returns-clause-graph : goal.returns-clause-graph
returns-clause-graph c =
    let g : BlockGraph =
    record {
      entry = c.args.entry;
      contexts = c.in_ok-rows.rows;
      blocks = c.in_ok-blocks.blocks;
      block_count = c.count_of.result;
      entry_block = c.entry_block.result;
      pruned = c.in_ok-pruned.pruned;
    } in
    graph_from c.args.image.now c.args.entry c.args.contexts.now c.args.points.now c.args.table.now c.args.live.now c.args.chains.now
    c.requires.ready g
    c.as_slice-firsts.result.now c.as_slice.result.now c.args.first c.in_ok-rows.ensures
    (c.as_slice-firsts.ensures ∙ c.in_ok-first_numbers.ensures)
    c.in_ok-blocks.ensures (search rules) c.in_ok-pruned.ensures.points c.in_ok-pruned.ensures.known c.requires.first c.requires.alive
    c.entry_block.ensures c.count_of.ensures refl

pub returns-clause-cut : goal.returns-clause-cut
returns-clause-cut c =
    blocks_cut c.args.image.now c.args.entry c.args.contexts.now c.args.points.now c.args.table.now c.args.live.now c.args.chains.now
    c.requires.ready c.as_slice-firsts.result.now (c.as_slice-firsts.ensures ∙ c.in_ok-first_numbers.ensures)
    c.in_ok-blocks.blocks c.in_ok-blocks.ensures
