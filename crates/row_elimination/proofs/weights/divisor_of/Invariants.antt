use Rattle.std.proofs.Common.{◌≡◌, drop}
use Rattle.row_elimination.specs.Weights.{common_factor}
use Rattle.row_elimination.proofs.weights.divisor_of.Given as goal

abbrev pub invariant-loop-multiplier : goal.invariant-loop-multiplier
invariant-loop-multiplier l = common_factor l.divisor (drop l.multiplier-index l.multipliers) ≡ common_factor l.number l.multipliers
