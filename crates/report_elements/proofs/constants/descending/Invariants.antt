use Rattle.std.proofs.Common.{◌≡◌, length}
use Rattle.cost_multiset.specs.CostLists.{descends}
use Rattle.report_elements.proofs.constants.descending.Given as goal

abbrev pub invariant-loop-run : goal.invariant-loop-run
invariant-loop-run l = descends l.left l.tail ≡ descends l.runs l.tail

abbrev pub decreases-loop-run : goal.decreases-loop-run
decreases-loop-run l = length l.left
