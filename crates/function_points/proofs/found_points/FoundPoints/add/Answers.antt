use Rattle.std.proofs.Common.{ap, ◌∙◌, ◌++◌, ◌∷◌, []}
use Rattle.function_points.proofs.PointLemmas.{pushed_pairs}
use Rattle.function_points.proofs.found_points.FoundPoints.add.Goals as goal

pub invariant_of-self-in-Continue-branch-3 : goal.invariant_of-self-in-Continue-branch-3
invariant_of-self-in-Continue-branch-3 c =
    pushed_pairs c.self.inside.seen c.insert.new.self c.self.inside.order.items c.push.new.self.items c.args.point
    (c.in_ok-push.ensures.items ∙ ap (λ ys. ys ++ c.args.point ∷ []) c.in_ok-reserve.ensures.items)
    c.self.invariant c.in_ok-insert.ensures.updates.0
