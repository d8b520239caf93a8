use Rattle.std.proofs.Common.{rules, sym, subst, List, ℕ}
use Rattle.point_order.specs.Families.{AreFamilies, IsOrder}
use Rattle.point_order.proofs.arrangement.ranked.Goals as goal

pub rank-requires-clause-order : goal.rank-requires-clause-order
rank-requires-clause-order c =
    subst (λ (zs : List ℕ). IsOrder c.args.contexts.now zs) (sym c.as_slice-2.ensures)
    (c.in_ok-order.ensures.ok c.args.contexts.now (subst (λ (zs : List (List ℕ)). AreFamilies c.args.contexts.now zs)
    (sym c.as_slice.ensures.value) c.in_ok-children.ensures.ok))
