use Rattle.std.proofs.Common.{◌≡◌, [], drop}
use Rattle.report_elements.specs.ConstantReading.{with_tail}
use Rattle.report_elements.proofs.constants.tail_in.Given as goal

abbrev pub invariant-loop-byte : goal.invariant-loop-byte
invariant-loop-byte l = with_tail l.runs l.digits.items (drop l.byte-index l.text) ≡ with_tail l.fn.runs [] l.text
