use Rattle.std.proofs.Common.{◌≡◌, ◌++◌, string_bytes, drop, map}
use Rattle.report_elements.specs.Elements.{in_brackets}
use Rattle.report_elements.specs.Elements.{row_term_text}
use Rattle.report_lines.proofs.writing.push_terms.Given as goal

abbrev pub invariant-loop-term : goal.invariant-loop-term
invariant-loop-term l = string_bytes l.out ++ in_brackets (map (row_term_text l.params) (drop l.term-index l.terms)) ≡ string_bytes l.fn.out ++ in_brackets (map (row_term_text l.params) l.terms)
