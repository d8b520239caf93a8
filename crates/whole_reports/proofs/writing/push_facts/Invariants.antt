use Rattle.std.proofs.Common.{◌≡◌, ◌++◌, string_bytes, drop}
use Rattle.report_lines.specs.Grammar.{lines_text, fact_lines}
use Rattle.whole_reports.proofs.writing.push_facts.Given as goal

abbrev pub invariant-loop-number : goal.invariant-loop-number
invariant-loop-number l = string_bytes l.out ++ lines_text l.params (fact_lines l.number (drop l.number l.facts)) ≡ string_bytes l.fn.out ++ lines_text l.params (fact_lines 0 l.facts)
