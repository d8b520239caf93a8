use Rattle.std.proofs.Common.{◌≡◌, ◌+◌, ◌<◌, ◌^◌, drop, length}
use Rattle.wsym_formula.specs.Counts.{counts_at}
use Rattle.wsym_formula.specs.Tables.{AllBelow}
use Rattle.wsym_formula.proofs.counts.sum_counts.Given as goal

abbrev pub invariant-loop-member : goal.invariant-loop-member
invariant-loop-member l = record {
  below : AllBelow (length l.counts) (drop l.member-index l.members);
  left : l.total + counts_at l.counts (drop l.member-index l.members) ≡ counts_at l.counts l.members;
  small : l.total < 2 ^ 63;
}
