use Rattle.std.proofs.Common.{◌≡◌, ◌+◌, ℕ, length, arith, ap}
use Rattle.level_tables.proofs.LoopNumberLemmas.{are_levels, level_added}
use Rattle.level_tables.proofs.rows.levels_of.Goals as goal

pub loop-row-preserved : goal.loop-row-preserved
loop-row-preserved g c =
    let i = c.loop-row.invariant in
    let m = level_added (g.G.FlowGraph.flow c.args.graph.now) c.args.nest.now c.loop-row.levels.items c.add_level.new.levels.items
    c.loop-row.level c.loop-row.row-index i.place i.size c.in_ok-add_level.ensures i.some in
    record { place = ap (λ (k : ℕ). k + 1) i.place; size = m.0; some = m.1 }

pub returns : goal.returns
returns g c =
    let i = c.loop-row.invariant in
    let size = c.in_ok-blocks.ensures.size.0 in
    let value : length c.as_slice-row-items.result.now ≡ length c.in_ok-blocks.blocks.items = ap length c.as_slice-row-items.ensures.value in
    let end = c.loop-row-test.false in
    let long = i.size in
    are_levels (g.G.FlowGraph.flow c.args.graph.now) c.requires.bounded c.args.nest.now c.requires.nest c.loop-row.levels.items
    (omega (arith, size, value, end, long)) i.some
