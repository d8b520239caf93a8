use Rattle.std.proofs.Common.{◌≡◌, drop}
use Rattle.linear_rows.specs.NormalForm.{common_divisor}
use Rattle.linear_rows.proofs.lowest.divisor.Given as goal

abbrev pub invariant-loop-term : goal.invariant-loop-term
invariant-loop-term l = common_divisor l.divisor (drop l.term-index l.terms) ≡ common_divisor 0 l.terms
