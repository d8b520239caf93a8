use Rattle.std.proofs.Common.{◌≡◌, drop}
use Rattle.std.specs.Prelude.{unsigned_abs}
use Rattle.linear_rows.specs.NormalForm.{common_divisor, gcd}
use Rattle.row_elimination.proofs.derived.divisor_of.Given as goal

abbrev pub invariant-loop-term : goal.invariant-loop-term
invariant-loop-term l = common_divisor l.divisor (drop l.term-index l.terms) ≡ common_divisor (gcd (unsigned_abs l.last) (unsigned_abs l.constant)) l.terms
