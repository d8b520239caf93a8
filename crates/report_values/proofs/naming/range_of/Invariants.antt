use Rattle.std.proofs.Common.{◌≡◌, drop}
use Rattle.report_values.specs.Naming.{range_of}
use Rattle.report_values.proofs.naming.range_of.Given as goal

abbrev pub invariant-loop-param : goal.invariant-loop-param
invariant-loop-param l = range_of (drop l.param-index l.params) l.name ≡ range_of l.params l.name
