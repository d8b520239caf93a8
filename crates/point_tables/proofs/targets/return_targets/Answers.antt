use Rattle.std.proofs.Common.{refl, sym, subst, get_or, [], ◌∷◌, arith}
use Rattle.control_flow.specs.Routes.{Way}
use Rattle.control_flow.specs.Points.{Point}
use Rattle.control_flow.specs.Controls.{skipped_way}
use Rattle.function_points.specs.PointLists.{points_at}
use Rattle.point_tables.specs.Targets.{LeadInto, HasTargets}
use Rattle.point_tables.proofs.PlacementLemmas.{two_targets_are, exit_targets, back_to, back_out}
use Rattle.point_tables.proofs.targets.return_targets.Goals as goal

pub returns-in-Some : goal.returns-in-Some
returns-in-Some c =
    let ls = c.args.contexts.now in
    let l = c.in-Some.ensures.some.0 in
    let m = c.requires.known in
    let is = back_to (get_or ls c.args.context []) (get_or ls c.in-Some.parent []) c.in-Some.after c.in-Some.ensures.some.1 in
    subst (λ (w : Way Point). HasTargets (points_at ls c.args.points.now) (w ∷ skipped_way (get_or ls c.args.context []) c.args.skipped)
    (record { done = c.number_of.result; skipped = c.skipped_number.result })) (sym is)
    (two_targets_are ls c.args.points.now c.requires.sorted c.args.context c.in-Some.parent c.in-Some.after
    (get_or ls c.in-Some.parent []) c.args.skipped c.number_of.result c.skipped_number.result
    c.requires.known (omega (arith, l, m)) refl (subst (λ (w : Way Point). LeadInto (points_at ls c.args.points.now)
    (w ∷ skipped_way (get_or ls c.args.context []) c.args.skipped)) is c.requires.closed) c.number_of.ensures c.skipped_number.ensures)

pub returns-in-None : goal.returns-in-None
returns-in-None c =
    let ls = c.args.contexts.now in
    let is = back_out (get_or ls c.args.context []) c.in-None.ensures.none in
    subst (λ (w : Way Point). HasTargets (points_at ls c.args.points.now) (w ∷ skipped_way (get_or ls c.args.context []) c.args.skipped)
    (record { done = c.exit_number.result; skipped = c.skipped_number-in-None.result })) (sym is)
    (exit_targets ls c.args.points.now c.requires.sorted c.args.context c.args.skipped c.exit_number.result c.skipped_number-in-None.result
    c.requires.known c.exit_number.ensures (subst (λ (w : Way Point). LeadInto (points_at ls c.args.points.now)
    (w ∷ skipped_way (get_or ls c.args.context []) c.args.skipped)) is c.requires.closed) c.skipped_number-in-None.ensures)
