use Rattle.std.proofs.Common.{◌+◌, ◌<◌, ℕ, length, sym, ap, subst}
use Rattle.level_tables.proofs.LoopNumberLemmas.{level_blocks, numbers_low, size_some}
use Rattle.level_tables.proofs.rows.blocks_of_levels.Goals as goal

pub blocks_of_loops-requires-clause-below : goal.blocks_of_loops-requires-clause-below
blocks_of_loops-requires-clause-below g c u d h =
    subst (λ (k : ℕ). d < k + 1) (sym (ap length c.as_slice-loops.ensures))
    (numbers_low (g.G.FlowGraph.flow c.args.graph.now) c.requires.bounded c.args.nest.now c.requires.nest c.as_slice.result.now
    c.as_slice.ensures u d h)

pub returns-clause-exact : goal.returns-clause-exact
returns-clause-exact g c d u lt =
    level_blocks (g.G.FlowGraph.flow c.args.graph.now) c.requires.bounded c.args.nest.now c.requires.nest c.as_slice.result.now
    c.as_slice.ensures c.in_ok-rows.rows.items c.in_ok-rows-2.field-0 c.count.result c.count.ensures c.in_ok-rows-2.ensures
    c.in_ok-rows.ensures.exact (size_some _ _ c.in_ok-rows.ensures.size) d u
