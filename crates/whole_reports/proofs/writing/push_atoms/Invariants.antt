use Rattle.std.proofs.Common.{◌≡◌, ◌++◌, string_bytes, drop, map}
use Rattle.report_lines.specs.Grammar.{lines_text}
use Rattle.report_lines.specs.declared.report.Line.TheVariants as line
use Rattle.whole_reports.proofs.writing.push_atoms.Given as goal

abbrev pub invariant-loop-atom : goal.invariant-loop-atom
invariant-loop-atom l = string_bytes l.out ++ lines_text l.params (map line.Atom (drop l.atom-index l.atoms)) ≡ string_bytes l.fn.out ++ lines_text l.params (map line.Atom l.atoms)
