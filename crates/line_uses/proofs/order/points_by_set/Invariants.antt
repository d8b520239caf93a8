use Rattle.std.proofs.Common.{drop}
use Rattle.line_uses.proofs.OrderLemmas.{AreInRows}
use Rattle.line_uses.proofs.order.points_by_set.Given as goal

abbrev pub invariant-loop-point : goal.invariant-loop-point
invariant-loop-point l = AreInRows l.lines l.sets l.order (drop l.point-index l.order) l.rows.items
