use Rattle.std.proofs.Common.{◌≡◌, ◌≤◌, ◌-◌, ℕ, length, get_or}
use Rattle.point_order.proofs.ranks.zeros.Given as goal

abbrev pub invariant-loop-ranks : goal.invariant-loop-ranks
invariant-loop-ranks l =
    record {
      few : length l.ranks.items ≤ l.count;
      none : (k : ℕ) → get_or l.ranks.items k 0 ≡ 0;
    }

abbrev pub decreases-loop-ranks : goal.decreases-loop-ranks
decreases-loop-ranks l = l.count - length l.ranks.items
