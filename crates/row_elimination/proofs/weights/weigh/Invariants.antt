use Rattle.std.proofs.Common.{◌≡◌, drop}
use Rattle.row_elimination.specs.Weights.{scaled_multipliers, products_fit, summed_multipliers, sums_fit}
use Rattle.row_elimination.proofs.weights.weigh.Given as goal

abbrev pub invariant-loop-multiplier : goal.invariant-loop-multiplier
invariant-loop-multiplier l = record {
  told : summed_multipliers (scaled_multipliers l.a (drop l.multiplier-index l.first)) l.out.items
      ≡ summed_multipliers (scaled_multipliers l.a l.first) (scaled_multipliers l.b l.second);
  products : products_fit l.a (drop l.multiplier-index l.first) ≡ products_fit l.a l.first;
  sums : sums_fit (scaled_multipliers l.a (drop l.multiplier-index l.first)) l.out.items
      ≡ sums_fit (scaled_multipliers l.a l.first) (scaled_multipliers l.b l.second);
}
