use Rattle.std.proofs.Common.{◌≡◌, ◌∷◌, drop, ◌++◌, pos}
use Rattle.farkas.specs.Placing.{scaled_numbers, numbers_fit}
use Rattle.farkas.proofs.placing.scale.Given as goal

abbrev pub invariant-loop-number : goal.invariant-loop-number
invariant-loop-number l = record {
  told : l.out ++ scaled_numbers (pos l.by) (drop l.number-index l.numbers) ≡ l.fn.first ∷ scaled_numbers (pos l.by) l.numbers;
  fit : numbers_fit (pos l.by) (drop l.number-index l.numbers) ≡ numbers_fit (pos l.by) l.numbers;
}
