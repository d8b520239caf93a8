use Rattle.std.proofs.Common.{◌≡◌, ◌++◌, length, drop}
use Rattle.wsym_formula.specs.Tables.{AllBelow}
use Rattle.wsym_formula.specs.Keeping.{all_there, numbers_at}
use Rattle.wsym_formula.proofs.keeping.kept_members.Given as goal

abbrev pub invariant-loop-member : goal.invariant-loop-member
invariant-loop-member l = record {
  left : AllBelow (length l.numbers) (drop l.member-index l.members);
  told : all_there l.chosen ++ numbers_at l.numbers (drop l.member-index l.members) ≡ numbers_at l.numbers l.members;
}
