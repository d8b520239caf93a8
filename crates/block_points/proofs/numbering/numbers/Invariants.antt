use Rattle.std.proofs.Common.{◌≡◌, ◌++◌, ◌+◌, ◌-◌, ◌≤◌}
use Rattle.block_points.specs.Numbering.{numbers_from}
use Rattle.block_points.proofs.numbering.numbers.Given as goal

abbrev pub invariant-loop-at : goal.invariant-loop-at
invariant-loop-at l = (l.at ≤ l.count) × (l.numbers ++ numbers_from (l.first + l.at) (l.count - l.at) ≡ numbers_from l.first l.count)
