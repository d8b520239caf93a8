use Rattle.std.proofs.Common.{take}
use Rattle.control_flow.specs.Ways.{fault_at}
use Rattle.function_points.specs.PointLists.{points_at}
use Rattle.point_tables.specs.Faults.{IsLeastOf}
use Rattle.point_tables.proofs.faults.first_fault.Given as goal

abbrev pub invariant-loop-point : goal.invariant-loop-point
invariant-loop-point l = IsLeastOf (fault_at l.image l.entry) (points_at l.contexts (take l.point-index l.points)) l.found
