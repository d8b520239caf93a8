use Rattle.std.proofs.Common.{◌≡◌, ◌<◌, drop}
use Rattle.report_elements.specs.Numbers.{number_below}
use Rattle.report_elements.proofs.digits.number.Given as goal

abbrev pub invariant-loop-byte : goal.invariant-loop-byte
invariant-loop-byte l = (number_below l.limit l.number (drop l.byte-index l.word) ≡ number_below l.limit 0 l.word) × (l.number < l.limit)
