-- The lines of a set that a search meets.
use Rattle.std.specs.Prelude.{◌≡◌, ◌≢◌, ℕ, ◌%◌, ◌==◌, true, if◌then◌else◌, List, nat_eq}
use Rattle.graph_search.specs.NodeLists.{Distinct, added, holds}
use Rattle.graph_search.specs.Searches.{steps_to}
use Rattle.graph_search.specs.Walks.{Reached}

-- another line of a line's set, of a point that is reached
abbrev pub IsMet : (ℕ → List ℕ) → (ℕ → ℕ) → ℕ → ℕ → ℕ → ℕ → Type 0
IsMet step lines start line sets m = (m ≢ line) × (m % sets ≡ line % sets)
    × ((q : ℕ) × Reached (steps_to nat_eq step) start q × (lines q ≡ m))

abbrev pub collected : ℕ → ℕ → List ℕ → ℕ → List ℕ
collected line sets ms m = if m == line then ms else (if m % sets == line % sets then added nat_eq ms m else ms)

-- the other lines of a line's set that some points have
pub record Collected (lines : ℕ → ℕ) (line sets : ℕ) (done ms : List ℕ) : Type 0 where
  pub distinct : Distinct nat_eq ms
  pub each : (m : ℕ) → holds nat_eq m ms ≡ true → (m ≢ line) × (m % sets ≡ line % sets)
      × ((q : ℕ) × (holds nat_eq q done ≡ true) × (lines q ≡ m))
  pub all : (q : ℕ) → holds nat_eq q done ≡ true → lines q ≢ line → lines q % sets ≡ line % sets
      → holds nat_eq (lines q) ms ≡ true
