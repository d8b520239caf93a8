use Rattle.std.proofs.Common.{List, ℕ, ◌++◌, ◌∙◌, ap, map}
use Rattle.fetch_timing.specs.Timings.{point_cost}
use Rattle.flow_graph.specs.declared.graph.Block.{Block}
use Rattle.flow_graph.specs.declared.graph.GraphPoint.{GraphPoint}
use Rattle.block_points.specs.Numbering.{joined}
use Rattle.block_points.proofs.LoopLemmas.{joined_on}
use Rattle.block_points.proofs.numbering.costs_of.Goals as goal

pub loop-block-preserved : goal.loop-block-preserved
loop-block-preserved c =
    let f = λ (k : ℕ) (b : Block). map (λ (x : GraphPoint). point_cost c.args.timing.now x.insn) b.points in
    joined_on f c.args.blocks.now c.loop-block.block-index c.loop-block.block-index c.block-item.result c.loop-block.costs
    c.add_costs.new.costs (joined f 0 c.args.blocks.now) c.loop-block-test.true c.block-item.is
    (c.in_ok-add_costs.ensures
    ∙ ap (λ (ps : List GraphPoint). c.loop-block.costs ++ map (λ (x : GraphPoint). point_cost c.args.timing.now x.insn) ps)
    c.as_slice.ensures)
    c.loop-block.invariant
