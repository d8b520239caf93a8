use Rattle.std.proofs.Common.{◌≡◌, drop}
use Rattle.farkas.specs.Placing.{common_number}
use Rattle.farkas.proofs.placing.divisor_of.Given as goal

abbrev pub invariant-loop-number : goal.invariant-loop-number
invariant-loop-number l = common_number l.divisor (drop l.number-index l.numbers) ≡ common_number l.fn.number l.numbers
