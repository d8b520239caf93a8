use Rattle.std.proofs.Common.{◌≡◌, ◌∷◌, drop}
use Rattle.interval_loops.specs.Rounds.{after}
use Rattle.level_tables.proofs.PlaceLemmas.{next_of}
use Rattle.level_tables.proofs.places.next_inside.Given as goal

abbrev pub invariant-loop-number : goal.invariant-loop-number
invariant-loop-number l = after l.level (0 ∷ l.round) ≡ next_of l.level l.found (drop l.number-index l.round)
