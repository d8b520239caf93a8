use Rattle.std.proofs.Common.{arith}
use Rattle.command_words.proofs.Digits.{passed_most}
use Rattle.command_words.proofs.numerals.decimal_number.Goals as goal

pub returns-then-most-value-clause-value : goal.returns-then-most-value-clause-value
returns-then-most-value-clause-value c =
    passed_most c.args.least c.args.most c.loop-digit.value c.loop-digit.digit-index c.in_ok-decimal_digit.field-0 c.args.digits.now c.loop-digit.invariant.rest c.loop-digit-test.true c.in_ok-decimal_digit.ensures.value (omega (arith, c.if-most-value.true, c.from.ensures))
