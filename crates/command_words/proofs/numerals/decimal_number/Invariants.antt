use Rattle.std.proofs.Common.{◌≡◌, ◌≤◌, drop}
use Rattle.std.specs.Prelude.{option_and_then}
use Rattle.command_words.specs.Numerals.{decimal_after, within}
use Rattle.command_words.proofs.numerals.decimal_number.Given as goal

abbrev pub invariant-loop-digit : goal.invariant-loop-digit
invariant-loop-digit l = record {
  rest : option_and_then (within l.least l.most) (decimal_after l.value (drop l.digit-index l.digits)) ≡ option_and_then (within l.least l.most) (decimal_after 0 l.digits);
  small : l.value ≤ l.most;
}
