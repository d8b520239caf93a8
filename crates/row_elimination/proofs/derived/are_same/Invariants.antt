use Rattle.std.proofs.Common.{◌≡◌, length}
use Rattle.row_elimination.specs.Steps.{are_same}
use Rattle.row_elimination.proofs.derived.are_same.Given as goal

abbrev pub invariant-loop-x : goal.invariant-loop-x
invariant-loop-x l = are_same l.left l.right ≡ are_same l.first l.second

abbrev pub decreases-loop-x : goal.decreases-loop-x
decreases-loop-x l = length l.left
