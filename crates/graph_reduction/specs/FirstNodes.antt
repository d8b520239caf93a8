-- Nodes of one block each, as far as they are made.
use Rattle.std.specs.Prelude.{◌≡◌, ℕ, Bool, ◌&&◌, ◌||◌, ◌==◌, nat_lt, List, length}
use Rattle.std.specs.List.{list_any}
use Rattle.std.specs.BTreeSet.{BTreeSet}
use Rattle.graph_search.specs.Flows.{Flow}
use Rattle.graph_reduction.specs.Nodes.{number_in}
use Rattle.graph_reduction.specs.Sets.{in_set}

-- each number stands at its own place
pub record AreOwn (n : ℕ) (xs : List ℕ) : Type 0 where
  pub size : length xs ≡ n
  pub at : (w : ℕ) → number_in xs w ≡ w

-- the edges of the first blocks
abbrev pub FirstEdges : Flow → ℕ → BTreeSet (ℕ × ℕ × ℕ) → Type 0
FirstEdges flow i into = (t n u : ℕ) → in_set into t n u ≡ (nat_lt u i && list_any (λ y. y == t) (flow.next u) &&
    (u == n))

abbrev pub FirstMembers : ℕ → BTreeSet (ℕ × ℕ × ℕ) → Type 0
FirstMembers i members = (n u w : ℕ) → in_set members n u w ≡ (nat_lt u i && (u == n) && (w == 0))

-- the edges of one block more
abbrev pub row_added : List ℕ → ℕ → (ℕ → ℕ → ℕ → Bool) → ℕ → ℕ → ℕ → Bool
row_added row i f t n u = (list_any (λ y. y == t) row && (n == i) && (u == i)) || f t n u
