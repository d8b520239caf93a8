-- Tables of a function's points, and what a code, the loops round a block and the loop of a depth are by them.
use Rattle.std.specs.Prelude.{◌≡◌, ◌≢◌, ℕ, ◌<◌, ◌≤◌, ◌^◌, ◌%◌, Bool, true, if◌then◌else◌, List, ◌∷◌, nat_eq, nat_lt}
use Rattle.std.specs.Prelude.{length}
use Rattle.std.specs.Prelude.{slice_index_or}
use Rattle.graph_search.specs.NodeLists.{holds}
use Rattle.graph_search.specs.Rows.{row_in}
use Rattle.persistence.specs.Searches.{IsStrong}
use Rattle.persistence.specs.PointRows.{line_at}
use Rattle.persistence.specs.Younger.{Code}

-- By point: what follows it, what it follows, its line, its block. By block the loops round it, the outermost first.
pub record PointMaps : Type 0 where
  pub next : List (List ℕ)
  pub before : List (List ℕ)
  pub lines : List ℕ
  pub home : List ℕ
  pub around : List (List ℕ)

abbrev pub code_of : PointMaps → Code
code_of m = record { next = λ q r. holds nat_eq q (row_in m.before r); line = line_at m.lines }

-- the block of a point; the number of blocks where there is no such point
abbrev pub block_of : PointMaps → ℕ → ℕ
block_of m q = slice_index_or m.home q (length m.around)

-- the points of a loop; of the whole function for 0
abbrev pub inside : PointMaps → ℕ → ℕ → Bool
inside m d q =
    if nat_eq d 0 then nat_lt (block_of m q) (length m.around) else holds nat_eq d (row_in m.around (block_of m q))

-- the loop of a depth round a block
abbrev pub loop_at : PointMaps → ℕ → ℕ → ℕ
loop_at m b d = slice_index_or (0 ∷ row_in m.around b) d 0

-- how many loops are round a point's block
abbrev pub depth_of : PointMaps → ℕ → ℕ
depth_of m p = length (row_in m.around (block_of m p))

-- the points of the loop of a depth round a point's block
abbrev pub within : PointMaps → ℕ → ℕ → ℕ → Bool
within m p d = inside m (loop_at m (block_of m p) d)

-- What tables have to meet: both rows of edges say the same, each point has a block, loops have numbers other than 0 and
-- are at most sixteen round a block, each point of a loop leads to each inside it, and loops lie one in another.
pub record ArePointMaps (m : PointMaps) : Type 0 where
  pub forth : (r q : ℕ) → holds nat_eq q (row_in m.next r) ≡ holds nat_eq r (row_in m.before q)
  pub below : (r q : ℕ) → holds nat_eq q (row_in m.before r) ≡ true → q < length m.before
  pub homes : length m.home ≡ length m.before
  pub count : length m.home < 2 ^ 32
  pub blocks : (q : ℕ) → q < length m.home → block_of m q < length m.around
  pub others : (b d : ℕ) → holds nat_eq d (row_in m.around b) ≡ true → d ≢ 0
  pub shallow : (b : ℕ) → length (row_in m.around b) ≤ 16
  pub strong : (d : ℕ) → d ≢ 0 → IsStrong (code_of m) (inside m d)
  pub nested : (b x d e : ℕ) → e ≤ d → d ≤ length (row_in m.around b) → inside m (loop_at m b d) x ≡ true
      → inside m (loop_at m b e) x ≡ true

-- a list that has all points of a line, and one that has all points of a line's cache set
abbrev pub HasLine : PointMaps → ℕ → List ℕ → Type 0
HasLine m line peers = (q : ℕ) → q < length m.home → line_at m.lines q ≡ line → holds nat_eq q peers ≡ true

abbrev pub HasSet : ℕ → PointMaps → ℕ → List ℕ → Type 0
HasSet sets m line peers = (q : ℕ) → q < length m.home → line_at m.lines q % sets ≡ line % sets
    → holds nat_eq q peers ≡ true

-- a row for each cache set, with all its points
abbrev pub HasSets : ℕ → PointMaps → List (List ℕ) → Type 0
HasSets sets m rows = (q : ℕ) → q < length m.home → holds nat_eq q (row_in rows (line_at m.lines q % sets)) ≡ true
