use Rattle.std.proofs.Common.{◌≡◌, ◌++◌, map, drop}
use Rattle.fetch_timing.specs.Caches.{line_of}
use Rattle.flow_graph.specs.declared.graph.GraphPoint.{GraphPoint}
use Rattle.block_points.proofs.numbering.add_lines.Given as goal

abbrev pub invariant-loop-point : goal.invariant-loop-point
invariant-loop-point l = l.lines ++ map (λ (p : GraphPoint). line_of l.timing p.address) (drop l.point-index l.points)
    ≡ l.fn.lines ++ map (λ (p : GraphPoint). line_of l.timing p.address) l.points
