use Rattle.std.proofs.Common.{◌≡◌, ◌+◌, drop}
use Rattle.std.specs.Prelude.{option_map}
use Rattle.farkas.specs.Deciding.{absurd_place}
use Rattle.farkas.proofs.entailment.place_of_absurd.Given as goal

abbrev pub invariant-loop-row : goal.invariant-loop-row
invariant-loop-row l = record {
  told : option_map (λ k. k + l.place) (absurd_place (drop l.row-index l.rows)) ≡ absurd_place l.rows;
  counted : l.place ≡ l.row-index;
}
