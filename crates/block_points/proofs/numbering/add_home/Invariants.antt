use Rattle.std.proofs.Common.{◌≡◌, ◌++◌, ◌-◌, ◌≤◌}
use Rattle.std.specs.Prelude.{replicate}
use Rattle.block_points.proofs.numbering.add_home.Given as goal

abbrev pub invariant-loop-at : goal.invariant-loop-at
invariant-loop-at l = (l._at ≤ l.count) × (l.home ++ replicate (l.count - l._at) l.number ≡ l.fn.home ++ replicate l.count l.number)
