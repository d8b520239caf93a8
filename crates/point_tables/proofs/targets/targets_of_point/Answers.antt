use Rattle.std.proofs.Common.{rules, sym, ◌∙◌}
use Rattle.std.specs.Prelude.{None}
use Rattle.function_points.specs.PointLists.{point_at, points_at}
use Rattle.point_tables.proofs.PlacementLemmas.{closed_at, closed_call, targets_at, targets_of_call, targets_of_recursion, no_targets}
use Rattle.control_flow.specs.declared.control.Control.TheVariants as control
use Rattle.point_tables.proofs.targets.targets_of_point.Goals as goal

pub go_targets-requires-clause-closed : goal.go_targets-requires-clause-closed
go_targets-requires-clause-closed c =
    closed_at (points_at c.args.contexts.now c.args.points.now) c.args.image.now c.args.entry
    (point_at c.args.contexts.now (c.args.context, c.args.address)) (control.Go c.in-Go.target c.in-Go.skipped)
    (sym c.control_at.ensures ∙ c.in-Go.is) c.requires.closed

pub call_targets-requires-clause-closed : goal.call_targets-requires-clause-closed
call_targets-requires-clause-closed c =
    closed_call (points_at c.args.contexts.now c.args.points.now) c.args.image.now c.args.entry
    (point_at c.args.contexts.now (c.args.context, c.args.address)) c.in-Call.target c.in-Call.after c.in-Call.skipped
    (sym c.control_at.ensures ∙ c.in-Call.is) (search rules) c.requires.closed

pub return_targets-requires-clause-closed : goal.return_targets-requires-clause-closed
return_targets-requires-clause-closed c =
    closed_at (points_at c.args.contexts.now c.args.points.now) c.args.image.now c.args.entry
    (point_at c.args.contexts.now (c.args.context, c.args.address)) (control.Return c.in-Return.skipped)
    (sym c.control_at.ensures ∙ c.in-Return.is) c.requires.closed

pub returns-in-Go : goal.returns-in-Go
returns-in-Go c =
    targets_at (points_at c.args.contexts.now c.args.points.now) c.args.image.now c.args.entry
    (point_at c.args.contexts.now (c.args.context, c.args.address)) (control.Go c.in-Go.target c.in-Go.skipped) c.go_targets.result
    (sym c.control_at.ensures ∙ c.in-Go.is) c.go_targets.ensures

pub returns-then-is_recursive : goal.returns-then-is_recursive
returns-then-is_recursive c =
    targets_of_recursion (points_at c.args.contexts.now c.args.points.now) c.args.image.now c.args.entry
    (point_at c.args.contexts.now (c.args.context, c.args.address)) c.in-Call.target c.in-Call.after c.in-Call.skipped
    (sym c.control_at.ensures ∙ c.in-Call.is) (sym c.is_recursive.ensures ∙ c.if-is_recursive.true)

pub returns-else-is_recursive : goal.returns-else-is_recursive
returns-else-is_recursive c =
    targets_of_call (points_at c.args.contexts.now c.args.points.now) c.args.image.now c.args.entry
    (point_at c.args.contexts.now (c.args.context, c.args.address)) c.in-Call.target c.in-Call.after c.in-Call.skipped
    (sym c.control_at.ensures ∙ c.in-Call.is) c.call_targets.result
    (sym c.is_recursive.ensures ∙ c.if-is_recursive.false) c.call_targets.ensures

pub returns-in-Return : goal.returns-in-Return
returns-in-Return c =
    targets_at (points_at c.args.contexts.now c.args.points.now) c.args.image.now c.args.entry
    (point_at c.args.contexts.now (c.args.context, c.args.address)) (control.Return c.in-Return.skipped) c.return_targets.result
    (sym c.control_at.ensures ∙ c.in-Return.is) c.return_targets.ensures

pub returns-in-Fault : goal.returns-in-Fault
returns-in-Fault c =
    targets_at (points_at c.args.contexts.now c.args.points.now) c.args.image.now c.args.entry
    (point_at c.args.contexts.now (c.args.context, c.args.address)) (control.Fault c.in-Fault.fault)
    (record { done = None; skipped = None })
    (sym c.control_at.ensures ∙ c.in-Fault.is) (no_targets (points_at c.args.contexts.now c.args.points.now))
