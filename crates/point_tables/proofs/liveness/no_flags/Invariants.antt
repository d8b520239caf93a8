use Rattle.std.proofs.Common.{◌≡◌, ◌≤◌, ◌-◌, ℕ, false, length, get_or}
use Rattle.point_tables.proofs.liveness.no_flags.Given as goal

abbrev pub invariant-loop-flags : goal.invariant-loop-flags
invariant-loop-flags l =
    record {
      few : length l.flags.items ≤ l.count;
      none : (k : ℕ) → get_or l.flags.items k false ≡ false;
    }

abbrev pub decreases-loop-flags : goal.decreases-loop-flags
decreases-loop-flags l = l.count - length l.flags.items
