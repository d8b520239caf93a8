use Rattle.std.proofs.Common.{ℕ, List, ◌-◌, length}
use Rattle.point_order.specs.Families.{AreFamilies}
use Rattle.point_order.proofs.PreorderLemmas.{Walked}
use Rattle.point_order.proofs.preorder.preorder.Given as goal

abbrev pub invariant-loop-at : goal.invariant-loop-at
invariant-loop-at l = (ls : List (List ℕ)) → AreFamilies ls l.children → Walked ls l.order.items l.stack.items

abbrev pub decreases-loop-at : goal.decreases-loop-at
decreases-loop-at l = length l.children - length l.order.items
