use Rattle.std.proofs.Common.{string_bytes, []}
use Rattle.report_lines.specs.declared.report.Line.TheVariants as line
use Rattle.report_lines.specs.Grammar.{line_text}
use Rattle.whole_reports.proofs.Parts.{three_lines}
use Rattle.whole_reports.proofs.writing.push_head.Goals as goal

pub returns : goal.returns
returns c =
    let r = c.args.report.now in
    three_lines (string_bytes c.args.out.now) (string_bytes c.push_version.new.out) (string_bytes c.end_line.new.out) (string_bytes c.push_function.new.out) (string_bytes c.end_line-2.new.out) (string_bytes c.push_timing.new.out) (string_bytes c.end_line-3.new.out)
    (line_text [] (line.Version r.version)) (line_text [] (line.Function r.entry r.stack)) (line_text [] (line.Timing r.timing))
    c.in_ok-push_version.ensures c.in_ok-end_line.ensures c.in_ok-push_function.ensures c.in_ok-end_line-2.ensures c.in_ok-push_timing.ensures c.in_ok-end_line-3.ensures
