use Rattle.std.proofs.Common.{◌≡◌, [], length}
use Rattle.report_elements.specs.Words.{all_on}
use Rattle.report_lines.specs.Reading.{coef_of}
use Rattle.report_lines.proofs.reading.coefs_in.Given as goal

abbrev pub invariant-loop-word : goal.invariant-loop-word
invariant-loop-word l = all_on (coef_of l.params) l.coefs l.fields ≡ all_on (coef_of l.params) [] l.fn.fields

abbrev pub decreases-loop-word : goal.decreases-loop-word
decreases-loop-word l = length l.fields
