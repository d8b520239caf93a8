use Rattle.std.proofs.Common.{rules, ◌≡◌, sym, subst, ◌<◌, List, ◌++◌, [], length, get_or}
use Rattle.std.specs.Prelude.{OnOk}
use Rattle.graph_search.specs.NodeLists.{added, added_all}
use Rattle.control_flow.specs.Points.{Point}
use Rattle.function_points.specs.Steps.{point_if}
use Rattle.function_points.specs.PointLists.{point_eq, points_at}
use Rattle.function_points.proofs.PointLemmas.{back_point, more_all}
use Rattle.function_points.proofs.expand.visit_return.Goals as goal

pub returns-in_err-visit-in-Some-clause-many : goal.returns-in_err-visit-in-Some-clause-many
returns-in_err-visit-in-Some-clause-many c h =
    subst (λ (qs : List Point). c.args.most < length (added_all point_eq (points_at c.args.contexts.now c.args.found.now)
    (qs ++ point_if (get_or c.args.contexts.now c.args.context []) c.args.skipped)))
    (sym (back_point (get_or c.args.contexts.now c.args.context [])
    (get_or c.args.contexts.now c.in-Some.parent []) c.in-Some.after c.in-Some.ensures.some.1))
    (more_all (added point_eq (points_at c.args.contexts.now c.args.found.now)
    (record { returns = get_or c.args.contexts.now c.in-Some.parent []; address = c.in-Some.after }))
    (point_if (get_or c.args.contexts.now c.args.context []) c.args.skipped) c.args.most
    (c.in_err-visit-in-Some.ensures.many (search rules)))

pub returns-in_ok-visit-in-Some-clause-ok : goal.returns-in_ok-visit-in-Some-clause-ok
returns-in_ok-visit-in-Some-clause-ok c =
    subst (λ (qs : List Point). OnOk c.visit_skipped.result (points_at c.args.contexts.now c.visit_skipped.new.found ≡ added_all point_eq
    (points_at c.args.contexts.now c.args.found.now) (qs ++ point_if (get_or c.args.contexts.now c.args.context []) c.args.skipped)))
    (sym (back_point (get_or c.args.contexts.now c.args.context [])
    (get_or c.args.contexts.now c.in-Some.parent []) c.in-Some.after c.in-Some.ensures.some.1))
    (subst (λ (zs : List Point). OnOk c.visit_skipped.result (points_at c.args.contexts.now c.visit_skipped.new.found
    ≡ added_all point_eq zs (point_if (get_or c.args.contexts.now c.args.context []) c.args.skipped))) c.in_ok-visit-in-Some.ensures.ok
    c.visit_skipped.ensures.ok)

pub returns-in_ok-visit-in-Some-clause-many : goal.returns-in_ok-visit-in-Some-clause-many
returns-in_ok-visit-in-Some-clause-many c h =
    subst (λ (qs : List Point). c.args.most < length (added_all point_eq (points_at c.args.contexts.now c.args.found.now)
    (qs ++ point_if (get_or c.args.contexts.now c.args.context []) c.args.skipped)))
    (sym (back_point (get_or c.args.contexts.now c.args.context [])
    (get_or c.args.contexts.now c.in-Some.parent []) c.in-Some.after c.in-Some.ensures.some.1))
    (subst (λ (zs : List Point). c.args.most < length (added_all point_eq zs
    (point_if (get_or c.args.contexts.now c.args.context []) c.args.skipped))) c.in_ok-visit-in-Some.ensures.ok
    (c.visit_skipped.ensures.many h))
