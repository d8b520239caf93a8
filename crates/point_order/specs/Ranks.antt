-- Lists of open calls and points, renumbered in their order.
use Rattle.std.specs.Prelude.{◌≡◌, ◌↔◌, ℕ, ◌<◌, ◌⊎◌, Bool, true, IsTrue, Contains, List, [], ◌∷◌, ◌++◌, length, get_or}
use Rattle.std.specs.Prelude.{slice_get, Some, map, take}
use Rattle.std.specs.BTreeSet as tree
use Rattle.std.specs.BTreeSet.{BTreeSet}
use Rattle.graph_search.specs.NodeLists.{holds}
use Rattle.function_points.specs.PointLists.{pair_eq}
use Rattle.function_points.specs.Contexts.{pair_cmp}
use Rattle.point_order.specs.Families.{Lower, list_at}
use Rattle.basic_blocks.specs.Blocks.{Ascending}

abbrev pub PairBefore : ℕ × ℕ → ℕ × ℕ → Type 0
PairBefore x y = (x.0 < y.0) ⊎ ((x.0 ≡ y.0) × (x.1 < y.1))

-- a list's parent and its last return address
abbrev pub IsRow : List (List ℕ) → ℕ → ℕ → ℕ → Type 0
IsRow ls k p a = (k < length ls) × (p < k) × (list_at ls k ≡ list_at ls p ++ a ∷ [])

-- the last return address and the number of each of the first lists but the empty one
pub record AreReturns (ls : List (List ℕ)) (n : ℕ) (there : ℕ × ℕ → Bool) : Type 0 where
  pub only : (a k : ℕ) → there (a, k) ≡ true → (p : ℕ) × IsRow ls k p a
  pub all : (a k p : ℕ) → k < n → IsRow ls k p a → there (a, k) ≡ true

-- the lists in their order, and the new number of each
pub record AreRanked (ls new : List (List ℕ)) (ranks : List ℕ) : Type 0 where
  pub rising : Ascending Lower new
  pub same : (l : List ℕ) → Contains new l ↔ Contains ls l
  pub long : length ranks ≡ length ls
  pub rank : (k : ℕ) → k < length ls → (get_or ranks k 0 < length new) × (list_at new (get_or ranks k 0) ≡ list_at ls k)

-- the first lists of the order, and their places
pub record Ranking (ls : List (List ℕ)) (order : List ℕ) (at : ℕ) (new : List (List ℕ)) (ranks : List ℕ) : Type 0 where
  pub made : new ≡ map (list_at ls) (take at order)
  pub long : length ranks ≡ length ls
  pub rank : (i k : ℕ) → i < at → slice_get order i ≡ Some k → get_or ranks k 0 ≡ i

abbrev pub renamed : List ℕ → ℕ × ℕ → ℕ × ℕ
renamed ranks n = (get_or ranks n.0 0, n.1)

-- pairs whose first numbers are renamed, as a set
pub record AreRenamed (ranks : List ℕ) (ns : List (ℕ × ℕ)) (there : ℕ × ℕ → Bool) : Type 0 where
  pub all : (n : ℕ × ℕ) → Contains ns n → there (renamed ranks n) ≡ true
  pub only : (m : ℕ × ℕ) → there m ≡ true → (n : ℕ × ℕ) × Contains ns n × (m ≡ renamed ranks n)

-- the same as a list in order
pub record AreOrdered (ranks : List ℕ) (ns ms : List (ℕ × ℕ)) : Type 0 where
  pub sorted : Ascending PairBefore ms
  pub all : (n : ℕ × ℕ) → Contains ns n → Contains ms (renamed ranks n)
  pub only : (m : ℕ × ℕ) → Contains ms m → (n : ℕ × ℕ) × Contains ns n × (m ≡ renamed ranks n)

-- some of them in order, and the keys of those that wait
pub record AreHalved (ranks : List ℕ) (ns ms keys : List (ℕ × ℕ)) : Type 0 where
  pub sorted : Ascending PairBefore ms
  pub before : (x y : ℕ × ℕ) → Contains ms x → Contains keys y → PairBefore x y
  pub all : (n : ℕ × ℕ) → Contains ns n → Contains (ms ++ keys) (renamed ranks n)
  pub only : (m : ℕ × ℕ) → Contains (ms ++ keys) m → (n : ℕ × ℕ) × Contains ns n × (m ≡ renamed ranks n)
