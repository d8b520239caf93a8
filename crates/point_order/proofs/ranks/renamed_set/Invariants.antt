use Rattle.std.proofs.Common.{◌≤◌, ◌-◌, length, take}
use Rattle.std.specs.BTreeSet as tree
use Rattle.function_points.specs.Contexts.{pair_cmp}
use Rattle.point_order.specs.Ranks.{AreRenamed}
use Rattle.point_order.proofs.ranks.renamed_set.Given as goal

abbrev pub invariant-loop-at : goal.invariant-loop-at
invariant-loop-at l =
    record {
      within : l.at ≤ length l.numbers;
      set : AreRenamed l.ranks (take l.at l.numbers) (tree.contains pair_cmp l.set);
    }

abbrev pub decreases-loop-at : goal.decreases-loop-at
decreases-loop-at l = length l.numbers - l.at
