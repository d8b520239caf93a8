use Rattle.std.proofs.Common.{◌≡◌}
use Rattle.linear_rows.specs.NormalForm.{gcd}
use Rattle.linear_rows.proofs.lowest.greatest_common_divisor.Given as goal

abbrev pub invariant-loop-second : goal.invariant-loop-second
invariant-loop-second l = gcd l.first l.second ≡ gcd l.fn.first l.fn.second

abbrev pub decreases-loop-second : goal.decreases-loop-second
decreases-loop-second l = l.second
