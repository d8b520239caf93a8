-- The steps of the two searches, forward from the points of a line and back from a point.
use Rattle.std.specs.Prelude.{◌≡◌, ℕ, ◌+◌, Bool, true, ◌&&◌, if◌then◌else◌, List, [], ◌∷◌, ◌++◌, nat_eq, length, Some}
use Rattle.std.specs.List.{filter}
use Rattle.graph_search.specs.NodeLists.{added, holds}
use Rattle.graph_search.specs.Rows.{row_in}
use Rattle.persistence.specs.PointRows.{line_at}
use Rattle.persistence.specs.Searches.{TestsFollowing, is_other}
use Rattle.line_uses.specs.PointMaps.{ArePointMaps, PointMaps, code_of, inside}
use Rattle.line_uses.specs.declared.searches.LineMarks.{LineMarks}

-- a point of another line in a loop
abbrev pub other : PointMaps → ℕ → ℕ → ℕ → Bool
other m d line = is_other (code_of m) (inside m d) line

-- the lines that some points have, so far, and one more
abbrev pub noted : PointMaps → ℕ → ℕ → List ℕ → ℕ → List ℕ
noted m d line ms q = if other m d line q then added nat_eq ms (line_at m.lines q) else ms

-- what follows the points of a line among some points
abbrev pub after_line : PointMaps → ℕ → List ℕ → List ℕ
after_line m line [] = []
after_line m line (a ∷ rest) =
    (if nat_eq (line_at m.lines a) line && inside m 0 a then filter (other m 0 line) (row_in m.next a) else [])
    ++ after_line m line rest

-- forward, from the number past the last point, to what follows the points of the line among these
abbrev pub forward_step : PointMaps → List ℕ → ℕ → ℕ → List ℕ
forward_step m peers line r =
    if nat_eq r (length m.home) then after_line m line peers else filter (other m 0 line) (row_in m.next r)

-- back, to points of other lines; in the whole function to those that the search forward met
abbrev pub picks : PointMaps → ℕ → ℕ → List ℕ → ℕ → Bool
picks m d line met q = other m d line q && (if nat_eq d 0 then holds nat_eq q met else true)

abbrev pub backward_step : PointMaps → ℕ → ℕ → List ℕ → ℕ → List ℕ
backward_step m d line met r = filter (picks m d line met) (row_in m.before r)

-- marks of the search forward from a line: where they say a line, they are that line's
pub record AreForward (m : PointMaps) (marks : LineMarks) : Type 0 where
  pub size : marks.marks.count ≡ length m.home + 1
  pub known : ArePointMaps m → (l : ℕ) → marks.line ≡ Some l
      → TestsFollowing (code_of m) (inside m 0) l (picks m 0 l marks.marks.nodes)
