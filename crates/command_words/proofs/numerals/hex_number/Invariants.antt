use Rattle.std.proofs.Common.{◌≡◌, ◌<◌, ◌^◌, drop}
use Rattle.command_words.specs.Numerals.{hex_after}
use Rattle.command_words.proofs.numerals.hex_number.Given as goal

abbrev pub invariant-loop-digit : goal.invariant-loop-digit
invariant-loop-digit l = record {
  rest : hex_after l.value (drop l.digit-index l.digits) ≡ hex_after 0 l.digits;
  small : l.value < 16 ^ l.digit-index;
}
