use Rattle.std.proofs.Common.{List, ℕ, ◌++◌, ◌∙◌, ap, map}
use Rattle.fetch_timing.specs.Caches.{line_of}
use Rattle.flow_graph.specs.declared.graph.Block.{Block}
use Rattle.flow_graph.specs.declared.graph.GraphPoint.{GraphPoint}
use Rattle.block_points.specs.Numbering.{joined}
use Rattle.block_points.proofs.LoopLemmas.{joined_on}
use Rattle.block_points.proofs.numbering.lines_of.Goals as goal

pub loop-block-preserved : goal.loop-block-preserved
loop-block-preserved c =
    let f = λ (k : ℕ) (b : Block). map (λ (x : GraphPoint). line_of c.args.timing.now x.address) b.points in
    joined_on f c.args.blocks.now c.loop-block.block-index c.loop-block.block-index c.block-item.result c.loop-block.lines
    c.add_lines.new.lines (joined f 0 c.args.blocks.now) c.loop-block-test.true c.block-item.is
    (c.in_ok-add_lines.ensures
    ∙ ap (λ (ps : List GraphPoint). c.loop-block.lines ++ map (λ (x : GraphPoint). line_of c.args.timing.now x.address) ps)
    c.as_slice.ensures)
    c.loop-block.invariant
