-- Younger lines of a point, and the scope of a use.
use Rattle.std.specs.Prelude.{◌≡◌, ◌≢◌, ℕ, ◌<◌, ◌≤◌, ◌%◌, Bool, true, List, [], ◌∷◌, map, length, nat_eq}
use Rattle.std.specs.List.{AllByRecursion}
use Rattle.graph_search.specs.NodeLists.{Distinct, holds}

-- Points by numbers: which leads to which, and the line of each.
pub record Code : Type 0 where
  pub next : ℕ → ℕ → Bool
  pub line : ℕ → ℕ

-- a path from a to b with at least one edge; the list has the points strictly inside, the last first
abbrev pub Path : (ℕ → ℕ → Bool) → ℕ → List ℕ → ℕ → Type 0
Path next a [] b = next a b ≡ true
Path next a (u ∷ us) b = (next u b ≡ true) × Path next a us u

-- a path that stays in a set of points, starts at a point of p's line, ends at p, and has no point of this line inside
pub record Leads (c : Code) (within : ℕ → Bool) (p a : ℕ) (us : List ℕ) : Type 0 where
  pub from : c.line a ≡ c.line p
  pub starts : within a ≡ true
  pub ends : within p ≡ true
  pub inside : AllByRecursion (λ u. (within u ≡ true) × (c.line u ≢ c.line p)) us
  pub path : Path c.next a us p

-- a line other than p's, of the same set, of a point inside such a path
abbrev pub IsYounger : Code → ℕ → (ℕ → Bool) → ℕ → ℕ → Type 0
IsYounger c sets within p m = (m ≢ c.line p) × (m % sets ≡ c.line p % sets)
    × ((a : ℕ) × (us : List ℕ) × Leads c within p a us × (holds nat_eq m (map c.line us) ≡ true))

-- at least that number of different numbers
abbrev pub AtLeast : ℕ → (ℕ → Type 0) → Type 0
AtLeast n P = (ms : List ℕ) × Distinct nat_eq ms × ((m : ℕ) → holds nat_eq m ms ≡ true → P m) × (n ≤ length ms)

-- the least depth with fewer younger lines than ways, of the sets of points by depth; and that there is none
abbrev pub IsScope : Code → ℕ → ℕ → (ℕ → ℕ → Bool) → ℕ → ℕ → ℕ → Type 0
IsScope c sets ways within depth p d = (d ≤ depth) × (AtLeast ways (IsYounger c sets (within d) p) → ⊥)
    × ((e : ℕ) → e < d → AtLeast ways (IsYounger c sets (within e) p))

abbrev pub HasNoScope : Code → ℕ → ℕ → (ℕ → ℕ → Bool) → ℕ → ℕ → Type 0
HasNoScope c sets ways within depth p = (e : ℕ) → e ≤ depth → AtLeast ways (IsYounger c sets (within e) p)

-- a history of points, the newest first, that leads to a point
abbrev pub Linked : (ℕ → ℕ → Bool) → ℕ → List ℕ → Type 0
Linked next p [] = Unit {0}
Linked next p (x ∷ h) = (next x p ≡ true) × Linked next x h
