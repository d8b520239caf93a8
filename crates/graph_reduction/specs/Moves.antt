-- Blocks that come from one number to another.
use Rattle.std.specs.Prelude.{◌≡◌, ℕ, ◌<◌, true, ◌==◌, if◌then◌else◌, List, length}
use Rattle.std.specs.List.{list_any}
use Rattle.std.specs.BTreeSet.{BTreeSet}
use Rattle.graph_search.specs.Flows.{Flow}
use Rattle.graph_reduction.specs.Nodes.{number_in, AreHeld, AreMembers}
use Rattle.graph_reduction.specs.Sets.{in_set}

-- the blocks of the list came from one number to the other, and the sets follow
pub record HasMoved (flow : Flow) (from to : ℕ) (before label moved : List ℕ)
    (old into members : BTreeSet (ℕ × ℕ × ℕ)) : Type 0 where
  pub size : length label ≡ length before
  pub labels : (w : ℕ) → number_in label w ≡ (if list_any (λ u. u == w) moved then to else number_in before w)
  pub were : (w : ℕ) → list_any (λ u. u == w) moved ≡ true → (number_in before w ≡ from) × (w < flow.count)
  pub held : AreHeld flow (number_in label) into
  pub opens : (t u : ℕ) → in_set into t (number_in label u) u ≡ in_set old t (number_in before u) u
  pub here : AreMembers flow (number_in label) members
