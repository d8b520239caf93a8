use Rattle.std.proofs.Common.{length}
use Rattle.std.specs.BTreeSet as tree
use Rattle.function_points.specs.Contexts.{pair_cmp}
use Rattle.point_order.proofs.FamilyLemmas.{Adopted}
use Rattle.point_order.proofs.families.families.Given as goal

abbrev pub invariant-loop-last : goal.invariant-loop-last
invariant-loop-last l = Adopted l.contexts (tree.contains pair_cmp l.waiting) l.children.items

abbrev pub decreases-loop-last : goal.decreases-loop-last
decreases-loop-last l = length l.waiting.keys
