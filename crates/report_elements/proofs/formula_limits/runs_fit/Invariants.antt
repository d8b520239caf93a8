use Rattle.std.proofs.Common.{◌≡◌, drop}
use Rattle.report_elements.specs.ConstantReading.{runs_fit}
use Rattle.report_elements.proofs.formula_limits.runs_fit.Given as goal

abbrev pub invariant-loop-run : goal.invariant-loop-run
invariant-loop-run l = runs_fit (drop l.run-index l.runs) ≡ runs_fit l.runs
