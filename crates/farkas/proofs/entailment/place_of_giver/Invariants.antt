use Rattle.std.proofs.Common.{◌≡◌, ◌+◌, drop}
use Rattle.std.specs.Prelude.{option_map}
use Rattle.farkas.specs.Deciding.{giver_place}
use Rattle.farkas.proofs.entailment.place_of_giver.Given as goal

abbrev pub invariant-loop-other : goal.invariant-loop-other
invariant-loop-other l = record {
  told : option_map (λ k. k + l.place) (giver_place (drop l.other-index l.rows) l.row) ≡ giver_place l.rows l.row;
  counted : l.place ≡ l.other-index;
}
