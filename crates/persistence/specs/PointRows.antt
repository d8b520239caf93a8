-- Points by tables: rows of predecessors, and lines.
use Rattle.std.specs.Prelude.{◌≡◌, ℕ, ◌<◌, true, List, nat_eq, length, slice_index_or}
use Rattle.graph_search.specs.NodeLists.{holds}
use Rattle.graph_search.specs.Rows.{row_in}
use Rattle.persistence.specs.Younger.{Code}

-- the line of a point; 0 past the table's end
abbrev pub line_at : List ℕ → ℕ → ℕ
line_at lines p = slice_index_or lines p 0

-- the predecessors and the lines of the points of some code
pub record AreOf (c : Code) (before : List (List ℕ)) (lines : List ℕ) : Type 0 where
  pub rows : (r q : ℕ) → holds nat_eq q (row_in before r) ≡ c.next q r
  pub is_line : (q : ℕ) → c.line q ≡ line_at lines q
  pub below : (r q : ℕ) → holds nat_eq q (row_in before r) ≡ true → q < length before
