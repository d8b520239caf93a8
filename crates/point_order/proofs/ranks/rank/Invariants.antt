use Rattle.std.proofs.Common.{◌≤◌, ◌<◌, ◌-◌, length}
use Rattle.point_order.specs.Ranks.{Ranking}
use Rattle.point_order.proofs.ranks.rank.Given as goal

abbrev pub invariant-loop-at : goal.invariant-loop-at
invariant-loop-at l =
    record {
      within : l.at ≤ length l.order;
      some : 0 < l.at;
      ranking : Ranking l.contexts l.order l.at l.ranked l.ranks.items;
    }

abbrev pub decreases-loop-at : goal.decreases-loop-at
decreases-loop-at l = length l.order - l.at
