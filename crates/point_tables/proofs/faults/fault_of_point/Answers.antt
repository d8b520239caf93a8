use Rattle.std.proofs.Common.{ap, cond, sym, ◌∙◌}
use Rattle.std.specs.Prelude.{Some, None}
use Rattle.std.proofs.lemmas.Bool.{cond-true, cond-false}
use Rattle.control_flow.specs.declared.control.Control.TheVariants as control
use Rattle.control_flow.specs.declared.control.Fault.TheVariants as fault
use Rattle.function_points.specs.PointLists.{point_at}
use Rattle.point_tables.proofs.PlacementLemmas.{fault_by_control}
use Rattle.point_tables.proofs.faults.fault_of_point.Goals as goal

pub returns-in-Go : goal.returns-in-Go
returns-in-Go c =
    fault_by_control c.args.image.now c.args.entry (point_at c.args.contexts.now (c.args.context, c.args.address))
    (control.Go c.in-Go.target c.in-Go.skipped) (sym c.control_at.ensures ∙ c.in-Go.is)

pub returns-then-is_recursive : goal.returns-then-is_recursive
returns-then-is_recursive c =
    sym (cond-true c.is_recursive.result (Some fault.Recursive) None c.if-is_recursive.true)
    ∙ ap (λ b. cond b (Some fault.Recursive) None) c.is_recursive.ensures
    ∙ fault_by_control c.args.image.now c.args.entry (point_at c.args.contexts.now (c.args.context, c.args.address))
    (control.Call c.in-Call.target c.in-Call.after c.in-Call.skipped) (sym c.control_at.ensures ∙ c.in-Call.is)

pub returns-else-is_recursive : goal.returns-else-is_recursive
returns-else-is_recursive c =
    sym (cond-false c.is_recursive.result (Some fault.Recursive) None c.if-is_recursive.false)
    ∙ ap (λ b. cond b (Some fault.Recursive) None) c.is_recursive.ensures
    ∙ fault_by_control c.args.image.now c.args.entry (point_at c.args.contexts.now (c.args.context, c.args.address))
    (control.Call c.in-Call.target c.in-Call.after c.in-Call.skipped) (sym c.control_at.ensures ∙ c.in-Call.is)

pub returns-in-Return : goal.returns-in-Return
returns-in-Return c =
    fault_by_control c.args.image.now c.args.entry (point_at c.args.contexts.now (c.args.context, c.args.address))
    (control.Return c.in-Return.skipped) (sym c.control_at.ensures ∙ c.in-Return.is)

pub returns-in-Fault : goal.returns-in-Fault
returns-in-Fault c =
    fault_by_control c.args.image.now c.args.entry (point_at c.args.contexts.now (c.args.context, c.args.address))
    (control.Fault c.in-Fault.fault) (sym c.control_at.ensures ∙ c.in-Fault.is)
