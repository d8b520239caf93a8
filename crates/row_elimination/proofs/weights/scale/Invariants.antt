use Rattle.std.proofs.Common.{◌≡◌, drop, ◌++◌}
use Rattle.row_elimination.specs.Weights.{scaled_multipliers, products_fit}
use Rattle.row_elimination.proofs.weights.scale.Given as goal

abbrev pub invariant-loop-multiplier : goal.invariant-loop-multiplier
invariant-loop-multiplier l = record {
  told : l.out.items ++ scaled_multipliers l.by (drop l.multiplier-index l.multipliers) ≡ scaled_multipliers l.by l.multipliers;
  fit : products_fit l.by (drop l.multiplier-index l.multipliers) ≡ products_fit l.by l.multipliers;
}
