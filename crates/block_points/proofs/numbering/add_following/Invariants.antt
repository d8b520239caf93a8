use Rattle.std.proofs.Common.{◌≡◌, ◌++◌, ◌+◌, ◌-◌, ◌≤◌}
use Rattle.block_points.specs.Numbering.{following}
use Rattle.block_points.proofs.numbering.add_following.Given as goal

abbrev pub invariant-loop-at : goal.invariant-loop-at
invariant-loop-at l = (l.at ≤ l.count - 1)
    × (l.next ++ following (l.first + l.at) (l.count - l.at) l.fn.after ≡ l.fn.next ++ following l.first l.count l.fn.after)
