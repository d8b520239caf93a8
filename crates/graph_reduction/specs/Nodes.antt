-- The nodes of a graph as numbers and flat sets.
use Rattle.std.specs.Prelude.{◌≡◌, ℕ, ◌<◌, ◌^◌, Bool, true, ◌&&◌, not, ◌==◌, if◌then◌else◌, nat_lt, List, slice_get}
use Rattle.std.specs.Prelude.{length}
use Rattle.std.specs.Option.{unwrap_or}
use Rattle.std.specs.Ordering.{nat_cmp}
use Rattle.std.specs.BTreeSet as tree
use Rattle.std.specs.BTreeSet.{BTreeSet}
use Rattle.graph_search.specs.Flows.{Flow, IsBounded, edge}
use Rattle.graph_reduction.specs.Reduction.{State, fits_one, fits_two}
use Rattle.graph_reduction.specs.Sets.{in_set}

-- the number that stands at a place, and past the end the place itself
abbrev pub number_in : List ℕ → ℕ → ℕ
number_in xs x = unwrap_or (slice_get xs x) x

-- the heads and the closing edges that the numbers and the set of the other edges stand for
abbrev pub state_of : Flow → (ℕ → ℕ) → (ℕ → ℕ) → BTreeSet (ℕ × ℕ × ℕ) → State
state_of flow label owner into = record {
  head = λ x. owner (label x);
  closed = λ u h. edge flow u h && not
      (in_set into h (label u) u);
}

-- the set holds edges of the graph, each by the number of its source's node
pub record AreHeld (flow : Flow) (label : ℕ → ℕ) (into : BTreeSet (ℕ × ℕ × ℕ)) : Type 0 where
  pub edges : (t n u : ℕ) → in_set into t n u ≡ true → edge flow u t ≡ true
  pub exact : (t n u : ℕ) → in_set into t n u ≡ (in_set into t (label u) u && (label u == n))

-- numbers of nodes and of blocks are below the count, and a node's head has the node's number
pub record AreNumbers (flow : Flow) (label owner : ℕ → ℕ) : Type 0 where
  pub labels : (u : ℕ) → u < flow.count → label u < flow.count
  pub owners : (n : ℕ) → n < flow.count → owner n < flow.count
  pub back : (w : ℕ) → label (owner (label w)) ≡ label w

-- each block by its number
abbrev pub AreMembers : Flow → (ℕ → ℕ) → BTreeSet (ℕ × ℕ × ℕ) → Type 0
AreMembers flow label members = (n u w : ℕ) → in_set members n u w ≡ (nat_lt u flow.count && (label u == n) && (w == 0))

pub record IsTested (flow : Flow) (s : State) (ones twos : BTreeSet ℕ) : Type 0 where
  pub one : (q : ℕ) → tree.contains nat_cmp ones q ≡ fits_one flow s q
  pub two : (q : ℕ) → tree.contains nat_cmp twos q ≡ fits_two flow s q

-- what the tests of a block want
pub record AreReady (flow : Flow) (label owner : ℕ → ℕ) (into : BTreeSet (ℕ × ℕ × ℕ)) : Type 0 where
  pub bounded : IsBounded flow
  pub held : AreHeld flow label into
  pub numbers : AreNumbers flow label owner

-- the set is what a test says at some places, and elsewhere as before
abbrev pub Retests : (ℕ → Bool) → (ℕ → Bool) → BTreeSet ℕ → BTreeSet ℕ → Type 0
Retests places test old new = (q : ℕ) → tree.contains nat_cmp new q ≡
    (if places q then test q else tree.contains nat_cmp old q)

pub record Refreshes (flow : Flow) (s : State) (places : ℕ → Bool) (ones ones' twos twos' : BTreeSet ℕ) : Type 0 where
  pub one : Retests places (fits_one flow s) ones ones'
  pub two : Retests places (fits_two flow s) twos twos'

pub record AreNodes (flow : Flow) (label owner : List ℕ) (members into : BTreeSet (ℕ × ℕ × ℕ))
    (ones twos : BTreeSet ℕ) : Type 0 where
  pub label_size : length label ≡ flow.count
  pub owner_size : length owner ≡ flow.count
  pub ready : AreReady flow (number_in label) (number_in owner) into
  pub here : AreMembers flow (number_in label) members
  pub tested : IsTested flow (state_of flow (number_in label) (number_in owner) into) ones twos
