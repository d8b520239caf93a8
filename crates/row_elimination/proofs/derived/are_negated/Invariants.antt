use Rattle.std.proofs.Common.{◌≡◌, length}
use Rattle.row_elimination.specs.Steps.{are_negated}
use Rattle.row_elimination.proofs.derived.are_negated.Given as goal

abbrev pub invariant-loop-x : goal.invariant-loop-x
invariant-loop-x l = are_negated l.left l.right ≡ are_negated l.first l.second

abbrev pub decreases-loop-x : goal.decreases-loop-x
decreases-loop-x l = length l.left
