-- The points from which control gets out, by a search backwards.
use Rattle.std.specs.Prelude.{◌≡◌, ◌↔◌, ℕ, ◌<◌, ◌≤◌, true, Contains, List, [], length, get_or, nat_eq}
use Rattle.graph_search.specs.NodeLists.{holds}
use Rattle.control_flow.specs.Routes.{Way, Goes, Leaves, IsReached}

-- the collected points, and the rows of those before each of them and, last, before Exit
pub record AreRows {A : Type 0} (ways : A → List (Way A)) (start : A) (ps : List A)
    (rows : List (List ℕ)) : Type 0 where
  pub all : (p : A) → IsReached ways start p → Contains ps p
  pub only : (p : A) → Contains ps p → IsReached ways start p
  pub inside : (i j : ℕ) → j ≤ length ps → holds nat_eq i (get_or rows j []) ≡ true → i < length ps
  pub exits : (i : ℕ) → i < length ps → (holds nat_eq i (get_or rows (length ps) []) ≡ true) ↔ Leaves ways
      (get_or ps i start)
  pub goes : (i j : ℕ) → i < length ps → j < length ps → (holds nat_eq i (get_or rows j []) ≡ true) ↔ Goes ways
      (get_or ps i start) (get_or ps j start)

abbrev pub before : List (List ℕ) → ℕ → List ℕ
before rows j = get_or rows j []
