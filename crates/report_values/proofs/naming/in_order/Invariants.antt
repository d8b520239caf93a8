use Rattle.std.proofs.Common.{◌≡◌, [], drop}
use Rattle.report_values.specs.Naming.{values_after}
use Rattle.report_values.proofs.naming.in_order.Given as goal

abbrev pub invariant-loop-param : goal.invariant-loop-param
invariant-loop-param l =
    values_after l.ordered (drop l.param-index l.params) l.values ≡ values_after [] l.params l.values
