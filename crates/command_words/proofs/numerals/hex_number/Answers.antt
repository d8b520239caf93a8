use Rattle.std.proofs.Common.{arith}
use Rattle.command_words.proofs.Digits.{hex_room}
use Rattle.command_words.proofs.numerals.hex_number.Goals as goal

pub overflow_mul-value : goal.overflow_mul-value
overflow_mul-value c =
    omega (arith, hex_room c.loop-digit.value c.loop-digit.digit-index 0 c.loop-digit.invariant.small (omega arith) (omega arith))

pub overflow_add-value : goal.overflow_add-value
overflow_add-value c =
    omega (arith, hex_room c.loop-digit.value c.loop-digit.digit-index c.from.result c.loop-digit.invariant.small (omega arith) (omega (arith, c.in_ok-hex_digit.ensures.small, c.from.ensures)))
