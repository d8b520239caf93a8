use Rattle.std.proofs.Common.{◌≡◌, ◌++◌, drop}
use Rattle.report_values.specs.Evaluations.{bounds_of}
use Rattle.report_values.proofs.bounds.bounds_of.Given as goal

abbrev pub invariant-loop-each : goal.invariant-loop-each
invariant-loop-each l = l.bounds ++ bounds_of (drop l.each-index l.loops) ≡ bounds_of l.loops
