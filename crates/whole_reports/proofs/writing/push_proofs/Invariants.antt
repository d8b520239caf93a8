use Rattle.std.proofs.Common.{◌≡◌, ◌++◌, [], string_bytes, drop, map}
use Rattle.report_lines.specs.Grammar.{lines_text}
use Rattle.report_lines.specs.declared.report.Line.TheVariants as line
use Rattle.whole_reports.proofs.writing.push_proofs.Given as goal

abbrev pub invariant-loop-proof : goal.invariant-loop-proof
invariant-loop-proof l = string_bytes l.out ++ lines_text [] (map line.Proof (drop l.proof-index l.proofs)) ≡ string_bytes l.fn.out ++ lines_text [] (map line.Proof l.proofs)
