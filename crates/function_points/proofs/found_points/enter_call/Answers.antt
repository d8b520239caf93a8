use Rattle.std.proofs.Common.{rules, ◌∙◌, ◌≡◌, subst, ◌<◌, ◌++◌, ◌∷◌, [], List, length, get_or}
use Rattle.std.specs.Prelude.{OnOk}
use Rattle.std.proofs.lemmas.Option.{slice_get_within}
use Rattle.control_flow.specs.Points.{Point}
use Rattle.function_points.specs.PointLists.{point_eq, point_at, points_at, AreUsed}
use Rattle.graph_search.specs.NodeLists.{added}
use Rattle.function_points.proofs.PointLemmas.{held_more, points_entered, kept_list, used_entered, on_ok}
use Rattle.function_points.proofs.found_points.enter_call.Goals as goal

pub visit-requires-clause-held : goal.visit-requires-clause-held
visit-requires-clause-held c = (held_more c.args.contexts.now c.child.new.self
    (get_or c.args.contexts.now c.args.context [] ++ c.args.after ∷ []) c.args.found.now c.requires.held (search rules)).0

pub visit-requires-clause-known : goal.visit-requires-clause-known
visit-requires-clause-known c = slice_get_within c.child.new.self c.in_ok-child.child
    (get_or c.args.contexts.now c.args.context [] ++ c.args.after ∷ []) (search rules)

pub returns-clause-ok : goal.returns-clause-ok
returns-clause-ok c =
    subst (λ (z : List Point). OnOk c.visit.result (points_at c.child.new.self c.visit.new.found ≡ z))
    (points_entered c.args.contexts.now c.child.new.self c.args.found.now
    (get_or c.args.contexts.now c.args.context [] ++ c.args.after ∷ []) c.in_ok-child.child c.args.target c.requires.held (search rules)
    (search rules))
    c.visit.ensures.ok

pub returns-clause-many : goal.returns-clause-many
returns-clause-many c h =
    subst (λ (z : List Point). c.args.most < length z)
    (points_entered c.args.contexts.now c.child.new.self c.args.found.now
    (get_or c.args.contexts.now c.args.context [] ++ c.args.after ∷ []) c.in_ok-child.child c.args.target c.requires.held (search rules)
    (search rules))
    (c.visit.ensures.many h)

pub returns-clause-kept : goal.returns-clause-kept
returns-clause-kept c = let k = kept_list c.args.contexts.now c.child.new.self
    (get_or c.args.contexts.now c.args.context [] ++ c.args.after ∷ []) c.args.context (search rules) c.requires.known in search (rules, k)

pub returns-clause-used : goal.returns-clause-used
returns-clause-used c =
    on_ok c.visit.result (points_at c.child.new.self c.visit.new.found ≡ added point_eq (points_at c.child.new.self c.args.found.now)
    (point_at c.child.new.self (c.in_ok-child.child, c.args.target)))
    (AreUsed c.args.contexts.now (points_at c.args.contexts.now c.args.found.now) → AreUsed c.child.new.self
    (points_at c.child.new.self c.visit.new.found))
    (λ e. used_entered c.args.contexts.now c.child.new.self (points_at c.args.contexts.now c.args.found.now)
    (points_at c.child.new.self c.visit.new.found) (get_or c.args.contexts.now c.args.context [] ++ c.args.after ∷ []) c.args.target
    (search rules) (e ∙ points_entered c.args.contexts.now c.child.new.self c.args.found.now
    (get_or c.args.contexts.now c.args.context [] ++ c.args.after ∷ []) c.in_ok-child.child c.args.target c.requires.held (search rules)
    (search rules)))
    c.visit.ensures.ok
