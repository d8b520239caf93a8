use Rattle.std.proofs.Common.{length}
use Rattle.point_order.specs.Ranks.{AreHalved}
use Rattle.point_order.proofs.ranks.rename.Given as goal

abbrev pub invariant-loop-point : goal.invariant-loop-point
invariant-loop-point l = AreHalved l.ranks l.numbers l.points l.waiting.keys

abbrev pub decreases-loop-point : goal.decreases-loop-point
decreases-loop-point l = length l.waiting.keys
