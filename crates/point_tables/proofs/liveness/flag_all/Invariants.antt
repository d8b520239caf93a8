use Rattle.std.proofs.Common.{take, ◌-◌, ◌≤◌, ℕ, [], length}
use Rattle.point_tables.specs.Numbers.{AreFlagged}
use Rattle.point_tables.proofs.liveness.flag_all.Given as goal

abbrev pub invariant-loop-at : goal.invariant-loop-at
invariant-loop-at l =
    record {
      within : l.at ≤ length l.found;
      flagged : (n : ℕ) → AreFlagged n [] l.fn.flags.items → AreFlagged n (take l.at l.found) l.flags.items;
    }

abbrev pub decreases-loop-at : goal.decreases-loop-at
decreases-loop-at l = length l.found - l.at
