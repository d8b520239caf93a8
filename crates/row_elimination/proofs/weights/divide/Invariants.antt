use Rattle.std.proofs.Common.{◌≡◌, drop, ◌++◌}
use Rattle.row_elimination.specs.Weights.{divided_multipliers}
use Rattle.row_elimination.proofs.weights.divide.Given as goal

abbrev pub invariant-loop-multiplier : goal.invariant-loop-multiplier
invariant-loop-multiplier l = l.out.items ++ divided_multipliers l.divisor (drop l.multiplier-index l.multipliers) ≡ divided_multipliers l.divisor l.multipliers
