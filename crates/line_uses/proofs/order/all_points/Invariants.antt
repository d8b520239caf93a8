use Rattle.std.proofs.Common.{◌≡◌, ◌<◌, ℕ, true, nat_eq}
use Rattle.graph_search.specs.NodeLists.{holds}
use Rattle.line_uses.proofs.order.all_points.Given as goal

abbrev pub invariant-loop-point : goal.invariant-loop-point
invariant-loop-point l = (q : ℕ) → q < l.point → holds nat_eq q l.points.items ≡ true
