use Rattle.std.proofs.Common.{◌≤◌, ◌-◌, length}
use Rattle.std.specs.BTreeSet as tree
use Rattle.function_points.specs.Contexts.{pair_cmp}
use Rattle.point_order.specs.Ranks.{AreReturns}
use Rattle.point_order.proofs.families.returns_of.Given as goal

abbrev pub invariant-loop-number : goal.invariant-loop-number
invariant-loop-number l =
    record {
      within : l.number ≤ length l.contexts;
      made : AreReturns l.contexts l.number (tree.contains pair_cmp l.waiting);
    }

abbrev pub decreases-loop-number : goal.decreases-loop-number
decreases-loop-number l = length l.contexts - l.number
