use Rattle.std.proofs.Common.{◌≡◌, ◌+◌, drop}
use Rattle.row_elimination.specs.Weights.{before_row, found_factor}
use Rattle.row_elimination.proofs.weights.place_of.Given as goal

abbrev pub invariant-loop-multiplier : goal.invariant-loop-multiplier
invariant-loop-multiplier l = record {
  told : l.index + before_row l.row (drop l.multiplier-index l.multipliers) ≡ before_row l.row l.multipliers;
  found : found_factor l.row (drop l.multiplier-index l.multipliers) ≡ found_factor l.row l.multipliers;
  counted : l.index ≡ l.multiplier-index;
}
