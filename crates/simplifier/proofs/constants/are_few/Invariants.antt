use Rattle.std.proofs.Common.{◌≡◌, ◌+◌, ◌<◌, ◌^◌, length, map, drop}
use Rattle.wsym_formula.specs.Tables.{AllBelow, meaning_at}
use Rattle.simplifier.specs.Normal.{all_places, constants}
use Rattle.simplifier.proofs.constants.are_few.Given as goal

abbrev pub invariant-loop-part : goal.invariant-loop-part
invariant-loop-part l = record {
  below : AllBelow (length l.table) (drop l.part-index l.parts);
  small : l.total < 2 ^ 63;
  left : l.total + all_places (constants (map (meaning_at l.table) (drop l.part-index l.parts))) ≡ all_places (constants (map (meaning_at l.table) l.parts));
}
