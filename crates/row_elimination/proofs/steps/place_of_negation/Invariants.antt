use Rattle.std.proofs.Common.{◌≡◌, ◌+◌, drop}
use Rattle.std.specs.Prelude.{option_map}
use Rattle.row_elimination.specs.Steps.{negation_place}
use Rattle.row_elimination.proofs.steps.place_of_negation.Given as goal

abbrev pub invariant-loop-other : goal.invariant-loop-other
invariant-loop-other l = record {
  told : option_map (λ k. k + l.place) (negation_place l.row (drop l.other-index l.rows)) ≡ negation_place l.row l.rows;
  counted : l.place ≡ l.other-index;
}
