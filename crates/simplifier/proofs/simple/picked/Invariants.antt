use Rattle.std.proofs.Common.{◌≡◌, ◌++◌, length, drop}
use Rattle.wsym_formula.specs.Tables.{AllBelow}
use Rattle.simplifier.specs.Simplified.{picked}
use Rattle.simplifier.proofs.simple.picked.Given as goal

abbrev pub invariant-loop-member : goal.invariant-loop-member
invariant-loop-member l = record {
  below : AllBelow (length l.numbers) (drop l.member-index l.members);
  left : l.chosen ++ picked l.numbers (drop l.member-index l.members) ≡ picked l.numbers l.members;
}
