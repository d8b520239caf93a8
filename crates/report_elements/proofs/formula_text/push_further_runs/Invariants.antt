use Rattle.std.proofs.Common.{◌≡◌, ◌++◌, string_bytes, drop}
use Rattle.report_elements.specs.Elements.{further_runs}
use Rattle.report_elements.proofs.formula_text.push_further_runs.Given as goal

abbrev pub invariant-loop-run : goal.invariant-loop-run
invariant-loop-run l = string_bytes l.out ++ further_runs (drop l.run-index l.runs) ≡ string_bytes l.fn.out ++ further_runs l.runs
