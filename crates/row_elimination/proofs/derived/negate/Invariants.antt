use Rattle.std.proofs.Common.{◌≡◌, drop, ◌++◌, negsuc, true}
use Rattle.linear_rows.specs.Terms.{scaled_terms}
use Rattle.linear_rows.specs.NormalForm.{all_within}
use Rattle.row_elimination.proofs.derived.negate.Given as goal

abbrev pub invariant-loop-term : goal.invariant-loop-term
invariant-loop-term l = record {
  told : l.out ++ scaled_terms (negsuc 0) (drop l.term-index l.terms) ≡ scaled_terms (negsuc 0) l.terms;
  within : all_within (drop l.term-index l.terms) ≡ true;
}
