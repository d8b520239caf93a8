use Rattle.std.proofs.Common.{◌≡◌, ◌++◌, length, map, drop}
use Rattle.wsym_formula.specs.Tables.{AllBelow, meaning_at}
use Rattle.simplifier.specs.Normal.{others}
use Rattle.simplifier.proofs.flattening.others_in.Given as goal

abbrev pub invariant-loop-part : goal.invariant-loop-part
invariant-loop-part l = record {
  left : AllBelow (length l.table) (drop l.part-index l.parts);
  below : AllBelow (length l.table) l.rest;
  means : map (meaning_at l.table) l.rest ++ others (map (meaning_at l.table) (drop l.part-index l.parts)) ≡ others (map (meaning_at l.table) l.parts);
}
