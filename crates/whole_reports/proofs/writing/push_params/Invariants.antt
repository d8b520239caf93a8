use Rattle.std.proofs.Common.{◌≡◌, ◌++◌, [], string_bytes, drop, map}
use Rattle.report_lines.specs.Grammar.{lines_text}
use Rattle.report_lines.specs.declared.report.Line.TheVariants as line
use Rattle.whole_reports.proofs.writing.push_params.Given as goal

abbrev pub invariant-loop-param : goal.invariant-loop-param
invariant-loop-param l = string_bytes l.out ++ lines_text [] (map line.Param (drop l.param-index l.params)) ≡ string_bytes l.fn.out ++ lines_text [] (map line.Param l.params)
