use Rattle.std.proofs.Common.{◌≡◌, drop, ◌++◌}
use Rattle.farkas.specs.Placing.{divided_numbers}
use Rattle.farkas.proofs.placing.divide.Given as goal

abbrev pub invariant-loop-number : goal.invariant-loop-number
invariant-loop-number l = l.out ++ divided_numbers l.divisor (drop l.number-index l.numbers) ≡ divided_numbers l.divisor l.numbers
