use Rattle.std.proofs.Common.{◌≡◌, ◌<◌, ◌^◌, drop}
use Rattle.report_elements.specs.Hexadecimal.{hex_on}
use Rattle.report_elements.proofs.addresses.hex.Given as goal

abbrev pub invariant-loop-byte : goal.invariant-loop-byte
invariant-loop-byte l = (hex_on l.number (drop l.byte-index l.word) ≡ hex_on 0 l.word) × (l.number < 2 ^ 32)
