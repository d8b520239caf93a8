use Rattle.std.proofs.Common.{◌≡◌, subst, ℕ, ◌<◌, List, ◌++◌, ◌∷◌, [], length, get_or}
use Rattle.std.specs.Prelude.{OnOk}
use Rattle.graph_search.specs.NodeLists.{added, added_all}
use Rattle.control_flow.specs.Points.{Point}
use Rattle.function_points.specs.Steps.{point_if}
use Rattle.function_points.specs.PointLists.{point_eq, points_at, AreUsed}
use Rattle.function_points.proofs.PointLemmas.{on_ok, used_more}
use Rattle.function_points.proofs.expand.visit_call.Goals as goal

pub visit_skipped-requires-clause-known : goal.visit_skipped-requires-clause-known
visit_skipped-requires-clause-known c = c.in_ok-enter_call.ensures.kept.0

pub returns-clause-ok : goal.returns-clause-ok
returns-clause-ok c =
    subst (λ (l : List ℕ). OnOk c.visit_skipped.result (points_at c.enter_call.new.contexts c.visit_skipped.new.found ≡ added_all point_eq
    (added point_eq (points_at c.args.contexts.now c.args.found.now)
    (record { returns = get_or c.args.contexts.now c.args.context [] ++ c.args.after ∷ []; address = c.args.target }))
    (point_if l c.args.skipped)))
    c.in_ok-enter_call.ensures.kept.1
    (subst (λ (zs : List Point). OnOk c.visit_skipped.result (points_at c.enter_call.new.contexts c.visit_skipped.new.found
    ≡ added_all point_eq zs (point_if (get_or c.enter_call.new.contexts c.args.context []) c.args.skipped)))
    c.in_ok-enter_call.ensures.ok c.visit_skipped.ensures.ok)

pub returns-clause-many : goal.returns-clause-many
returns-clause-many c h =
    subst (λ (l : List ℕ). c.args.most < length (added_all point_eq (added point_eq (points_at c.args.contexts.now c.args.found.now)
    (record { returns = get_or c.args.contexts.now c.args.context [] ++ c.args.after ∷ []; address = c.args.target }))
    (point_if l c.args.skipped)))
    c.in_ok-enter_call.ensures.kept.1
    (subst (λ (zs : List Point). c.args.most < length (added_all point_eq zs
    (point_if (get_or c.enter_call.new.contexts c.args.context []) c.args.skipped))) c.in_ok-enter_call.ensures.ok
    (c.visit_skipped.ensures.many h))

pub returns-clause-used : goal.returns-clause-used
returns-clause-used c =
    on_ok c.visit_skipped.result (points_at c.enter_call.new.contexts c.visit_skipped.new.found ≡ added_all point_eq
    (points_at c.enter_call.new.contexts c.enter_call.new.found) (point_if
    (get_or c.enter_call.new.contexts c.args.context []) c.args.skipped))
    (AreUsed c.args.contexts.now (points_at c.args.contexts.now c.args.found.now) → AreUsed c.enter_call.new.contexts
    (points_at c.enter_call.new.contexts c.visit_skipped.new.found))
    (λ e u. used_more c.enter_call.new.contexts (points_at c.enter_call.new.contexts c.enter_call.new.found)
    (points_at c.enter_call.new.contexts c.visit_skipped.new.found)
    (point_if (get_or c.enter_call.new.contexts c.args.context []) c.args.skipped) e (c.in_ok-enter_call.ensures.used u))
    c.visit_skipped.ensures.ok
