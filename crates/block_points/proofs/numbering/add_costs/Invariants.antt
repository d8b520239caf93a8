use Rattle.std.proofs.Common.{◌≡◌, ◌++◌, map, drop}
use Rattle.fetch_timing.specs.Timings.{point_cost}
use Rattle.flow_graph.specs.declared.graph.GraphPoint.{GraphPoint}
use Rattle.block_points.proofs.numbering.add_costs.Given as goal

abbrev pub invariant-loop-point : goal.invariant-loop-point
invariant-loop-point l = l.costs ++ map (λ (p : GraphPoint). point_cost l.timing p.insn) (drop l.point-index l.points)
    ≡ l.fn.costs ++ map (λ (p : GraphPoint). point_cost l.timing p.insn) l.points
