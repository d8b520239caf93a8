use Rattle.std.proofs.Common.{◌≡◌, drop, ◌++◌}
use Rattle.linear_rows.specs.NormalForm.{divided}
use Rattle.row_elimination.proofs.derived.divide.Given as goal

abbrev pub invariant-loop-term : goal.invariant-loop-term
invariant-loop-term l = l.out ++ divided l.divisor (drop l.term-index l.terms) ≡ divided l.divisor l.terms
