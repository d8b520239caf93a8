use Rattle.std.proofs.Common.{◌≡◌, [], ◌∷◌, ◌++◌, get_or}
use Rattle.graph_search.specs.NodeLists.{added_all}
use Rattle.function_points.specs.Steps.{point_if}
use Rattle.control_flow.specs.Points.{last_return, without_last}
use Rattle.function_points.specs.PointLists.{point_eq, points_at, AreUsed}
use Rattle.function_points.proofs.PointLemmas.{held_under, on_ok, used_more}
use Rattle.function_points.proofs.expand.expand.Goals as goal

pub visit_next-requires-clause-known : goal.visit_next-requires-clause-known
visit_next-requires-clause-known c = held_under c.args.contexts.now c.args.found.now c.args.at c.get-context.result c.requires.held
    c.get-context.ensures

pub is_recursive-requires : goal.is_recursive-requires
is_recursive-requires c = held_under c.args.contexts.now c.args.found.now c.args.at c.get-context.result c.requires.held
    c.get-context.ensures

pub visit_call-requires-clause-known : goal.visit_call-requires-clause-known
visit_call-requires-clause-known c = held_under c.args.contexts.now c.args.found.now c.args.at c.get-context.result c.requires.held
    c.get-context.ensures

pub visit_return-requires-clause-known : goal.visit_return-requires-clause-known
visit_return-requires-clause-known c = held_under c.args.contexts.now c.args.found.now c.args.at c.get-context.result c.requires.held
    c.get-context.ensures

pub returns-in-Go-clause-used : goal.returns-in-Go-clause-used
returns-in-Go-clause-used c =
    on_ok c.visit_next.result (points_at c.args.contexts.now c.visit_next.new.found ≡ added_all point_eq
    (points_at c.args.contexts.now c.args.found.now)
    (record { returns = get_or c.args.contexts.now c.get-context.result.0 []; address = c.in-Go.target } ∷ point_if
    (get_or c.args.contexts.now c.get-context.result.0 []) c.in-Go.skipped))
    (AreUsed c.args.contexts.now (points_at c.args.contexts.now c.args.found.now) → AreUsed c.args.contexts.now
    (points_at c.args.contexts.now c.visit_next.new.found))
    (used_more c.args.contexts.now (points_at c.args.contexts.now c.args.found.now) (points_at c.args.contexts.now c.visit_next.new.found)
    (record { returns = get_or c.args.contexts.now c.get-context.result.0 []; address = c.in-Go.target } ∷ point_if
    (get_or c.args.contexts.now c.get-context.result.0 []) c.in-Go.skipped))
    c.visit_next.ensures.ok

pub returns-in-Return-clause-used : goal.returns-in-Return-clause-used
returns-in-Return-clause-used c =
    on_ok c.visit_return.result (points_at c.args.contexts.now c.visit_return.new.found ≡ added_all point_eq
    (points_at c.args.contexts.now c.args.found.now) (point_if (without_last (get_or c.args.contexts.now c.get-context.result.0 []))
    (last_return (get_or c.args.contexts.now c.get-context.result.0 [])) ++ point_if
    (get_or c.args.contexts.now c.get-context.result.0 []) c.in-Return.skipped))
    (AreUsed c.args.contexts.now (points_at c.args.contexts.now c.args.found.now) → AreUsed c.args.contexts.now
    (points_at c.args.contexts.now c.visit_return.new.found))
    (used_more c.args.contexts.now (points_at c.args.contexts.now c.args.found.now) (points_at c.args.contexts.now c.visit_return.new.found)
    (point_if (without_last (get_or c.args.contexts.now c.get-context.result.0 []))
    (last_return (get_or c.args.contexts.now c.get-context.result.0 [])) ++ point_if
    (get_or c.args.contexts.now c.get-context.result.0 []) c.in-Return.skipped))
    c.visit_return.ensures.ok
