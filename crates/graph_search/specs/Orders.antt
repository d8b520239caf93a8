-- Lists in ascending order.
use Rattle.std.specs.Prelude.{◌≡◌, ℕ, ◌<◌, true, nat_eq, List, [], ◌∷◌}
use Rattle.graph_search.specs.NodeLists.{holds}

-- by a rank each item is below all that come after it
abbrev pub Rising : (ℕ → ℕ) → List ℕ → Type 0
Rising rank [] = Unit {0}
Rising rank (x ∷ xs) = ((y : ℕ) → holds nat_eq y xs ≡ true → rank x < rank y) × Rising rank xs
