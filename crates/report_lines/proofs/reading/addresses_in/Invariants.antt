use Rattle.std.proofs.Common.{◌≡◌, [], length}
use Rattle.report_elements.specs.Words.{all_on, address_of}
use Rattle.report_lines.proofs.reading.addresses_in.Given as goal

abbrev pub invariant-loop-word : goal.invariant-loop-word
invariant-loop-word l = all_on address_of l.addresses l.fields ≡ all_on address_of [] l.fn.fields

abbrev pub decreases-loop-word : goal.decreases-loop-word
decreases-loop-word l = length l.fields
