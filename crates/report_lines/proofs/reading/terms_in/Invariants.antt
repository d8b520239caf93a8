use Rattle.std.proofs.Common.{◌≡◌, [], length}
use Rattle.report_elements.specs.Words.{all_on}
use Rattle.report_lines.specs.Reading.{term_of}
use Rattle.report_lines.proofs.reading.terms_in.Given as goal

abbrev pub invariant-loop-word : goal.invariant-loop-word
invariant-loop-word l = all_on (term_of l.params) l.terms l.fields ≡ all_on (term_of l.params) [] l.fn.fields

abbrev pub decreases-loop-word : goal.decreases-loop-word
decreases-loop-word l = length l.fields
