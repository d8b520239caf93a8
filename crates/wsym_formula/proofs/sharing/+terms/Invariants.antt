use Rattle.std.proofs.Common.{◌≡◌, length, map, take}
use Rattle.wsym_formula.specs.Tables.{AllBelow, Extends, meaning_at}
use Rattle.wsym_formula.proofs.sharing.+terms.Given as goal

abbrev pub invariant-add_terms-loop-term : goal.invariant-add_terms-loop-term
invariant-add_terms-loop-term l = record {
  below : AllBelow (length l.table) l.numbers;
  extends : Extends l.fn.table l.table;
  means : map (meaning_at l.table) l.numbers ≡ take l.term-index l.terms;
}
