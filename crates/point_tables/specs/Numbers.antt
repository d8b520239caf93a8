-- Points by their numbers, and the way out by the number after the last point's.
use Rattle.std.specs.Prelude.{◌≡◌, ◌≢◌, ◌↔◌, ℕ, ◌<◌, ◌≤◌, ◌==◌, ◌⊎◌, [], not, nat_eq, Bool, true, false, Contains}
use Rattle.std.specs.Prelude.{Option, Some, None}
use Rattle.std.specs.Prelude.{List, length, get_or, slice_get}
use Rattle.graph_search.specs.NodeLists.{holds}
use Rattle.control_flow.specs.Routes.{Way, Goes, Leaves, IsReached, IsLive}
use Rattle.basic_blocks.specs.Chains.{is_flagged, Follows}

-- all points that control reaches in a list without repetition, and the numbers to which each leads
pub record AreNumbers {A : Type 0} (ways : A → List (Way A)) (start : A) (ps : List A)
    (step : ℕ → List ℕ) : Type 0 where
  pub all : (p : A) → IsReached ways start p → Contains ps p
  pub only : (p : A) → Contains ps p → IsReached ways start p
  pub distinct : (i j : ℕ) → i < length ps → j < length ps → get_or ps i start ≡ get_or ps j start → i ≡ j
  pub goes : (i j : ℕ) → i < length ps → j < length ps → Contains (step i) j
      ↔ Goes ways (get_or ps i start) (get_or ps j start)
  pub leaves : (i : ℕ) → i < length ps → Contains (step i) (length ps) ↔ Leaves ways (get_or ps i start)
  pub inside : (i j : ℕ) → Contains (step i) j → (i < length ps) × (j ≤ length ps)

-- the rows of those before each number
abbrev pub AreSources : (ℕ → List ℕ) → (ℕ → List ℕ) → Type 0
AreSources step back = (i j : ℕ) → Contains (back j) i ↔ Contains (step i) j

-- a number is put into the rows of those to which it leads
abbrev pub AreLed : List (List ℕ) → List ℕ → ℕ → List (List ℕ) → Type 0
AreLed old js i new = (length new ≡ length old) × ((x j : ℕ) → Contains (get_or new j []) x
    ↔ (Contains (get_or old j []) x ⊎ ((x ≡ i) × Contains js j)))

-- the flags of live points, and that of the way out
pub record AreLiveFlags {A : Type 0} (ways : A → List (Way A)) (start : A) (ps : List A)
    (flag : ℕ → Bool) : Type 0 where
  pub live : (i : ℕ) → i < length ps → (flag i ≡ true) ↔ IsLive ways start (get_or ps i start)
  pub exit : flag (length ps) ≡ true

-- the only number of a row that is flagged
abbrev pub IsOnlyFlagged : (ℕ → Bool) → List ℕ → ℕ → Type 0
IsOnlyFlagged flag row q = Contains row q × (flag q ≡ true) × ((r : ℕ) → Contains row r → flag r ≡ true → r ≡ q)

-- an answer: what has the property, or nothing where nothing has
abbrev pub Answers : {A : Type 0} → (A → Type 0) → Option A → Type 0
Answers {A} P None = (q : A) → P q → ⊥
Answers P (Some q) = P q

-- one was found, and this is another
abbrev pub is_other : Option ℕ → ℕ → Bool
is_other None x = false
is_other (Some p) x = not (p == x)

-- q is all that follows p, and p all that q follows
pub record IsLink (step back : ℕ → List ℕ) (flag : ℕ → Bool) (n entry p q : ℕ) : Type 0 where
  pub next : IsOnlyFlagged flag (step p) q
  pub before : IsOnlyFlagged flag (back q) p
  pub below : q < n
  pub inner : q ≢ entry

-- a table of what stands in a relation to each of the first numbers
pub record IsTableOf (R : ℕ → ℕ → Type 0) (n : ℕ) (table : List (Option ℕ)) : Type 0 where
  pub long : length table ≡ n
  pub only : (p q : ℕ) → Follows table p q → R p q
  pub all : (p q : ℕ) → p < n → R p q → Follows table p q

-- the flags of the numbers in a list
pub record AreFlagged (n : ℕ) (found : List ℕ) (flags : List Bool) : Type 0 where
  pub long : length flags ≡ n
  pub flag : (i : ℕ) → i < n → is_flagged flags i ≡ holds nat_eq i found

-- two lists of the same length, in which members at the same place stand in a relation
pub record Pointwise {A B : Type 0} (R : A → B → Type 0) (xs : List A) (ys : List B) : Type 0 where
  pub long : length ys ≡ length xs
  pub each : (k : ℕ) (x : A) (y : B) → slice_get xs k ≡ Some x → slice_get ys k ≡ Some y → R x y
