use Rattle.std.proofs.Common.{Err, ap}
use Rattle.wsymb_top.proofs.Answering.{if_refused, of_bad_report, of_bad_value, read_as}
use Rattle.wsymb_top.proofs.values.value_of.Goals as goal

pub value_in-requires : goal.value_in-requires
value_in-requires c = c.read_reports_fit.ensures c.in-Ok.report c.in-Ok.ensures.found.0

pub returns-in-Ok-clause-refused : goal.returns-in-Ok-clause-refused
returns-in-Ok-clause-refused c =
    if_refused _ _ _ c.value_in.ensures.refused (λ why refused.
    of_bad_value c.args.valuation.now.values c.args.bytes.now c.in-Ok.report why
    (read_as c.args.bytes.now c.in-Ok.report c.reports_are_read.ensures.only c.in-Ok.ensures.found)
    (rw c.as_slice.ensures at refused))

pub returns-in-Err-Bad-clause-refused : goal.returns-in-Err-Bad-clause-refused
returns-in-Err-Bad-clause-refused c =
    rw c.in-Err-Bad.field-0-is (of_bad_report c.args.valuation.now.values c.args.bytes.now c.in-Err-Bad.line
    (c.reports_are_read.ensures.bad_only c.args.bytes.now c.in-Err-Bad.line
    (c.in-Err-Bad.ensures.bad c.in-Err-Bad.line (ap Err c.in-Err-Bad.field-0-is))))
