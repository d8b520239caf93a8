-- Searches that find the younger lines of a point.
use Rattle.std.specs.Prelude.{◌≡◌, ◌≢◌, ℕ, Bool, true, List, nat_eq, not, ◌&&◌}
use Rattle.std.specs.List.{AllByRecursion}
use Rattle.graph_search.specs.NodeLists.{holds}
use Rattle.persistence.specs.Younger.{Code, Path}

-- a point of another line in a set of points, with a path to it from a point of the line, and no such point inside
abbrev pub FollowsLine : Code → (ℕ → Bool) → ℕ → ℕ → Type 0
FollowsLine c within line q = (within q ≡ true) × (c.line q ≢ line)
    × ((a : ℕ) × (us : List ℕ) × (c.line a ≡ line) × (within a ≡ true)
    × AllByRecursion (λ u. (within u ≡ true) × (c.line u ≢ line)) us × Path c.next a us q)

-- a test that is true exactly of these points
pub record TestsFollowing (c : Code) (within : ℕ → Bool) (line : ℕ) (follows : ℕ → Bool) : Type 0 where
  pub sound : (q : ℕ) → follows q ≡ true → FollowsLine c within line q
  pub complete : (q : ℕ) → FollowsLine c within line q → follows q ≡ true

-- steps back along the edges, to the points that a test takes
pub record IsBackward (c : Code) (follows : ℕ → Bool) (step : ℕ → List ℕ) : Type 0 where
  pub sound : (r q : ℕ) → holds nat_eq q (step r) ≡ true → (follows q ≡ true) × (c.next q r ≡ true)
  pub complete : (r q : ℕ) → follows q ≡ true → c.next q r ≡ true → holds nat_eq q (step r) ≡ true

-- steps forward to points of other lines in a set of points; from the start, to those that follow points of the line
pub record IsForward (c : Code) (within : ℕ → Bool) (line start : ℕ) (step : ℕ → List ℕ) : Type 0 where
  pub first_sound : (q : ℕ) → holds nat_eq q (step start) ≡ true
      → (within q ≡ true) × (c.line q ≢ line) × ((a : ℕ) × (c.line a ≡ line) × (within a ≡ true) × (c.next a q ≡ true))
  pub first_complete : (a q : ℕ) → c.line a ≡ line → within a ≡ true → c.next a q ≡ true → within q ≡ true
      → c.line q ≢ line → holds nat_eq q (step start) ≡ true
  pub sound : (r q : ℕ) → r ≢ start → holds nat_eq q (step r) ≡ true
      → (within q ≡ true) × (c.line q ≢ line) × (c.next r q ≡ true)
  pub complete : (r q : ℕ) → r ≢ start → c.next r q ≡ true → within q ≡ true → c.line q ≢ line
      → holds nat_eq q (step r) ≡ true
  pub apart : (q : ℕ) → within q ≡ true → q ≢ start

-- each point of a set leads to each by a path that stays in the set
abbrev pub IsStrong : Code → (ℕ → Bool) → Type 0
IsStrong c within = (x y : ℕ) → within x ≡ true → within y ≡ true
    → (us : List ℕ) × AllByRecursion (λ u. within u ≡ true) us × Path c.next x us y

abbrev pub is_other : Code → (ℕ → Bool) → ℕ → ℕ → Bool
is_other c within line q = within q && not (nat_eq (c.line q) line)

-- a path inside a set of points
abbrev pub Way : Code → (ℕ → Bool) → ℕ → ℕ → Type 0
Way c within a q = (us : List ℕ) × AllByRecursion (λ u. within u ≡ true) us × Path c.next a us q
