-- Closing edges, each by its header, its source and 0.
use Rattle.std.specs.Prelude.{◌≡◌, ℕ, Bool, ◌&&◌, ◌||◌, not, ◌==◌, nat_lt, cond, true, List}
use Rattle.std.specs.List.{list_any}
use Rattle.std.specs.BTreeSet.{BTreeSet}
use Rattle.graph_search.specs.Flows.{Flow}
use Rattle.graph_reduction.specs.Sets.{in_set}
use Rattle.graph_reduction.specs.Reduction.{State}

-- one edge more, where it closes
abbrev pub closing_added : ℕ → ℕ → Bool → (ℕ → ℕ → ℕ → Bool) → ℕ → ℕ → ℕ → Bool
closing_added t i held f h u z = cond held (f h u z) (cond ((h == t) && (u == i) && (z == 0)) true (f h u z))

-- the closing edges of one block more
abbrev pub closings_added : List ℕ → (ℕ → Bool) → ℕ → (ℕ → ℕ → ℕ → Bool) → ℕ → ℕ → ℕ → Bool
closings_added row held i f h u z = ((list_any (λ y. y == h) row && not (held h)) && (u == i) && (z == 0)) || f h u z

-- those of the first blocks
abbrev pub FirstClosings : Flow → (ℕ → ℕ) → BTreeSet (ℕ × ℕ × ℕ) → ℕ → BTreeSet (ℕ × ℕ × ℕ) → Type 0
FirstClosings flow label into i closing = (h u z : ℕ) → in_set closing h u z ≡
    ((nat_lt u i && list_any (λ y. y == h) (flow.next u) && not (in_set into h (label u) u)) && (z == 0))

-- the set has exactly these
abbrev pub AreClosings : State → BTreeSet (ℕ × ℕ × ℕ) → Type 0
AreClosings s closing = (h u z : ℕ) → in_set closing h u z ≡ (s.closed u h && (z == 0))
