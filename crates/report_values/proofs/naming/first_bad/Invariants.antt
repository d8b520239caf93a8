use Rattle.std.proofs.Common.{◌≡◌, ◌≤◌, [], drop, take, length}
use Rattle.report_values.specs.Naming.{first_bad}
use Rattle.report_values.proofs.naming.first_bad.Given as goal

abbrev pub invariant-loop-at : goal.invariant-loop-at
invariant-loop-at l = record {
  within : l.at ≤ length l.values;
  rest : first_bad l.params (take l.at l.values) (drop l.at l.values) ≡ first_bad l.params [] l.values;
}
