use Rattle.std.proofs.Common.{◌≡◌, ◌++◌, length, map, drop}
use Rattle.wsym_formula.specs.Tables.{AllBelow, meaning_at}
use Rattle.simplifier.specs.Normal.{flattened, choices}
use Rattle.simplifier.proofs.flattening.shares_in.Given as goal

abbrev pub invariant-loop-member : goal.invariant-loop-member
invariant-loop-member l = record {
  left : AllBelow (length l.table) (drop l.member-index l.members);
  below : AllBelow (length l.table) l.parts;
  means : map (meaning_at l.table) l.parts ++ flattened choices (map (meaning_at l.table) (drop l.member-index l.members)) ≡ flattened choices (map (meaning_at l.table) l.members);
}
