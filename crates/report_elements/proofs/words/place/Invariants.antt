use Rattle.std.proofs.Common.{◌≡◌, ◌+◌, length, drop}
use Rattle.report_elements.specs.Words.{before}
use Rattle.report_elements.proofs.words.place.Given as goal

abbrev pub invariant-loop-byte : goal.invariant-loop-byte
invariant-loop-byte l = (l.at ≡ l.byte-index) × (l.at + length (before l.mark (drop l.byte-index l.text)) ≡ length (before l.mark l.text))
