use Rattle.std.proofs.Common.{◌≡◌, drop, ◌++◌}
use Rattle.linear_rows.specs.NormalForm.{divided, all_within}
use Rattle.linear_rows.proofs.lowest.divide.Given as goal

abbrev pub invariant-loop-term : goal.invariant-loop-term
invariant-loop-term l = record {
  told : l.out ++ divided l.divisor (drop l.term-index l.terms) ≡ divided l.divisor l.terms;
  within : all_within (divided l.divisor (drop l.term-index l.terms)) ≡ all_within (divided l.divisor l.terms);
}
