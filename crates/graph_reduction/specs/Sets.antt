-- Sets of the numbers that pass a test.
use Rattle.graph_search.specs.Flows.{Flow}
use Rattle.graph_reduction.specs.Reduction.{State, is_open}
use Rattle.std.specs.Prelude.{◌≡◌, ℕ, ◌<◌, ◌≤◌, ◌^◌, Bool, true, false, if◌then◌else◌, ◌==◌, ◌&&◌, List}
use Rattle.std.specs.List.{list_any}
use Rattle.std.specs.Ordering.{nat_cmp, ordering_then}
use Rattle.std.specs.declared.cmp.Ordering.{Ordering}
use Rattle.std.specs.BTreeSet as tree
use Rattle.std.specs.BTreeSet.{BTreeSet}

-- the set has the numbers that pass, and they are below n
pub record HasExactly (s : BTreeSet ℕ) (test : ℕ → Bool) (n : ℕ) : Type 0 where
  pub is : (q : ℕ) → tree.contains nat_cmp s q ≡ test q
  pub below : (q : ℕ) → test q ≡ true → q < n

abbrev pub HasAllBut : BTreeSet ℕ → BTreeSet ℕ → ℕ → Type 0
HasAllBut s n k = (q : ℕ) → tree.contains nat_cmp n q ≡ (if q == k then false else tree.contains nat_cmp s q)

-- the order of triples that a derived order has: by the first two, and then by the third
abbrev pub edge_cmp : ℕ × ℕ × ℕ → ℕ × ℕ × ℕ → Ordering
edge_cmp x y = ordering_then (ordering_then (nat_cmp x.0 y.0) (nat_cmp x.1 y.1)) (nat_cmp x.2 y.2)

-- whether a triple is in the set
abbrev pub in_set : BTreeSet (ℕ × ℕ × ℕ) → ℕ → ℕ → ℕ → Bool
in_set s t n w = tree.contains edge_cmp s (t, n, w)

-- the edge from u to t gets the number b in the place of a
abbrev pub one_moved : ℕ → ℕ → ℕ → ℕ → (ℕ → ℕ → ℕ → Bool) → ℕ → ℕ → ℕ → Bool
one_moved t u a b f x n w =
    if f t a u
    then (if (x == t) && (n == b) && (w == u) then true else if (x == t) && (n == a) && (w == u) then false
    else f x n w)
    else f x n w

-- each edge from u to a target of the row does
abbrev pub row_moved : List ℕ → ℕ → ℕ → ℕ → (ℕ → ℕ → ℕ → Bool) → ℕ → ℕ → ℕ → Bool
row_moved row u a b f x n w = if (w == u) && list_any (λ t. t == x) row then (n == b) && f x a u else f x n w

-- the set holds the open edges, by the numbers of their sources' nodes
pub record HoldsOpen (flow : Flow) (s : State) (label : ℕ → ℕ) (into : BTreeSet (ℕ × ℕ × ℕ)) : Type 0 where
  pub is : (t n u : ℕ) → in_set into t n u ≡ (is_open flow s u t && (label u == n))
  pub labels : (u : ℕ) → u < flow.count → label u < 2 ^ 32
  pub few : flow.count ≤ 2 ^ 32
