use Rattle.std.proofs.Common.{◌≡◌, ◌++◌, string_bytes, drop, map}
use Rattle.report_lines.specs.Grammar.{lines_text}
use Rattle.report_lines.specs.declared.report.Line.TheVariants as line
use Rattle.whole_reports.proofs.writing.push_rows.Given as goal

abbrev pub invariant-loop-row : goal.invariant-loop-row
invariant-loop-row l = string_bytes l.out ++ lines_text l.params (map line.Row (drop l.row-index l.rows)) ≡ string_bytes l.fn.out ++ lines_text l.params (map line.Row l.rows)
