use Rattle.std.proofs.Common.{take}
use Rattle.control_flow.specs.Ways.{ways_from}
use Rattle.function_points.specs.PointLists.{points_at}
use Rattle.point_tables.specs.Targets.{AllHaveTargets}
use Rattle.point_tables.proofs.targets.all_targets.Given as goal

abbrev pub invariant-loop-point : goal.invariant-loop-point
invariant-loop-point l = AllHaveTargets (ways_from l.image l.entry) (points_at l.contexts l.points)
    (points_at l.contexts (take l.point-index l.points)) l.table
