-- Blocks that are listed once each edge to them comes from a listed block.
use Rattle.std.specs.Prelude.{◌≡◌, ◌⊎◌, ℕ, suc, ◌+◌, ◌<◌, ◌≤◌, ◌^◌, Bool, true, false, if◌then◌else◌, nat_eq, nat_lt}
use Rattle.std.specs.Prelude.{Some, slice_get, List, [], ◌∷◌, ◌++◌, length, take}
use Rattle.std.specs.BTreeSet.{BTreeSet}
use Rattle.graph_search.specs.NodeLists.{holds, Distinct}
use Rattle.graph_search.specs.Flows.{Flow}
use Rattle.graph_reduction.specs.Sets.{in_set}

-- the place of a number in a list
abbrev pub place : ℕ → List ℕ → ℕ
place u [] = 0
place u (x ∷ xs) = if nat_eq u x then 0 else suc (place u xs)

-- a block is added where no edge of the set leads to it
abbrev pub ListsFree : BTreeSet (ℕ × ℕ × ℕ) → ℕ → List ℕ → List ℕ → Type 0
ListsFree into t xs ys = ((ys ≡ xs) × ((n : ℕ) × (u : ℕ) × (in_set into t n u ≡ true))) ⊎
    ((ys ≡ xs ++ t ∷ []) × ((n u : ℕ) → n < 2 ^ 32 → u < 2 ^ 32 → in_set into t n u ≡ false))

-- the same where an edge was taken out
abbrev pub Follows : Bool → BTreeSet (ℕ × ℕ × ℕ) → ℕ → List ℕ → List ℕ → Type 0
Follows false into t xs ys = ys ≡ xs
Follows true into t xs ys = ListsFree into t xs ys

-- Of the first set's edges the other set has those that don't come from the first m listed blocks, at least; and none
-- from the first n. Listed are, of the blocks that are due, those to which none of its edges leads.
pub record IsListing (due : ℕ → Bool) (flow : Flow) (label : ℕ → ℕ) (first into : BTreeSet (ℕ × ℕ × ℕ)) (n m : ℕ)
    (order : List ℕ) : Type 0 where
  pub few : n ≤ m
  pub long : m ≤ length order
  pub less : (t k u : ℕ) → in_set into t k u ≡ true → in_set first t k u ≡ true
  pub gone : (t u : ℕ) → in_set first t (label u) u ≡ true → in_set into t (label u) u ≡ false → holds nat_eq u
      (take m order) ≡ true
  pub clear : (t u : ℕ) → holds nat_eq u (take n order) ≡ true → in_set into t (label u) u ≡ false
  pub free : (t k u : ℕ) → holds nat_eq t order ≡ true → in_set into t k u ≡ false
  pub listed : (t : ℕ) → due t ≡ true → ((k u : ℕ) → in_set into t k u ≡ false) → holds nat_eq t order ≡ true
  pub rises : (i t u : ℕ) → slice_get order i ≡ Some t → in_set first t (label u) u ≡ true → holds nat_eq u
      (take i order) ≡ true
  pub distinct : Distinct nat_eq order
  pub below : (t : ℕ) → holds nat_eq t order ≡ true → due t ≡ true

-- some edges from a block are taken out, while its row is gone over
pub record IsPartly (flow : Flow) (label : ℕ → ℕ) (first into : BTreeSet (ℕ × ℕ × ℕ)) (at block : ℕ) (over : ℕ → Bool)
    (order : List ℕ) : Type 0 where
  pub listing : IsListing (λ t. nat_lt t flow.count) flow label first into at (at + 1) order
  pub done : (t : ℕ) → over t ≡ true → in_set into t (label block) block ≡ false
  pub here : slice_get order at ≡ Some block
