use Rattle.std.proofs.Common.{◌≡◌, drop}
use Rattle.report_values.specs.Naming.{value_by}
use Rattle.report_values.proofs.naming.value_by.Given as goal

abbrev pub invariant-loop-value : goal.invariant-loop-value
invariant-loop-value l = value_by (drop l.value-index l.values) l.name ≡ value_by l.values l.name
