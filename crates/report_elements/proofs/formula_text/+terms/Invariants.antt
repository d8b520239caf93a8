use Rattle.std.proofs.Common.{◌≡◌, ◌++◌, string_bytes, drop}
use Rattle.report_elements.specs.Elements.{spaced, term_text}
use Rattle.report_elements.proofs.formula_text.+terms.Given as goal

abbrev pub invariant-push_terms-loop-term : goal.invariant-push_terms-loop-term
invariant-push_terms-loop-term l = string_bytes l.out ++ spaced term_text (drop l.term-index l.terms) ≡ string_bytes l.fn.out ++ spaced term_text l.terms
