-- A search whose list of nodes is its own worklist.
use Rattle.std.specs.Prelude.{◌≡◌, ℕ, ◌≤◌, Bool, true, List, length, take}
use Rattle.graph_search.specs.NodeLists.{holds, Distinct}
use Rattle.graph_search.specs.Walks.{Reached}

-- the edges of a graph that is given by lists of successors
abbrev pub steps_to : {A : Type 0} → (A → A → Bool) → (A → List A) → A → A → Type 0
steps_to same step a b = holds same b (step a) ≡ true

-- The list holds the start and nodes that it reaches, none twice, and each successor of its first nodes, `at` of them.
pub record Searched {A : Type 0} (same : A → A → Bool) (step : A → List A) (start : A) (at : ℕ)
    (xs : List A) : Type 0 where
  pub within : at ≤ length xs
  pub starts : holds same start xs ≡ true
  pub reached : (x : A) → holds same x xs ≡ true → Reached (steps_to same step) start x
  pub distinct : Distinct same xs
  pub closed : (x y : A) → holds same x (take at xs) ≡ true → holds same y (step x) ≡ true → holds same y xs ≡ true
