-- Which lines of the instruction cache a block uses, and within which loops each misses at most once.
use Rattle.std.specs.Prelude.{ℕ, ◌+◌, ◌/◌, ◌%◌, ◌==◌, Bool, false, if◌then◌else◌, List, [], ◌∷◌, ◌++◌, Option, Some, None, nat_le}
use Rattle.std.specs.List.{list_any}
use Rattle.wsym_terms.specs.declared.trees.Use.{Use}

-- a set-associative cache: its sets, the lines that each holds, and the bytes of a line
pub record Geometry : Type 0 where
  pub sets : ℕ
  pub ways : ℕ
  pub line : ℕ

-- a list of different lines with one more
abbrev pub with_line : List ℕ → ℕ → List ℕ
with_line lines line = if list_any (λ l. l == line) lines then lines else lines ++ line ∷ []

abbrev pub lines_after : Geometry → List ℕ → List ℕ → List ℕ
lines_after g lines [] = lines
lines_after g lines (a ∷ addresses) = lines_after g (with_line lines (a / g.line)) addresses

-- the lines of some addresses, each once
abbrev pub lines_of : Geometry → List ℕ → List ℕ
lines_of g addresses = lines_after g [] addresses

-- how many of some lines stand in the set of a line
abbrev pub rivals : Geometry → ℕ → List ℕ → ℕ
rivals g line [] = 0
rivals g line (l ∷ lines) = if l % g.sets == line % g.sets then rivals g line lines + 1 else rivals g line lines

-- The least depth from `depth` on whose loop has no more lines in the set of this line than the set holds. The rings are
-- the lines of the whole function, then of each loop round the block, from the outermost in, each line once.
abbrev pub scope_from : Geometry → ℕ → ℕ → List (List ℕ) → Option ℕ
scope_from g line depth [] = None
scope_from g line depth (ring ∷ rings) = if nat_le (rivals g line ring) g.ways then Some depth else scope_from g line (depth + 1) rings

abbrev pub is_last : Option ℕ → ℕ → Bool
is_last None line = false
is_last (Some last) line = last == line

-- A block uses the line of its first address, and each line that isn't that of the address before.
abbrev pub lines_used : Geometry → Option ℕ → List ℕ → List ℕ
lines_used g last [] = []
lines_used g last (a ∷ addresses) =
    if is_last last (a / g.line) then lines_used g (Some (a / g.line)) addresses else (a / g.line) ∷ lines_used g (Some (a / g.line)) addresses

abbrev pub with_scope : ℕ → Option ℕ → List Use → List Use
with_scope line None uses = uses
with_scope line (Some depth) uses = record { line = line; scope = depth } ∷ uses

-- the uses that have a scope
abbrev pub scoped : Geometry → List (List ℕ) → List ℕ → List Use
scoped g rings [] = []
scoped g rings (line ∷ lines) = with_scope line (scope_from g line 0 rings) (scoped g rings lines)

abbrev pub one_without : Option ℕ → ℕ
one_without None = 1
one_without (Some depth) = 0

-- how many uses have none: each of them always counts as a miss
abbrev pub unscoped : Geometry → List (List ℕ) → List ℕ → ℕ
unscoped g rings [] = 0
unscoped g rings (line ∷ lines) = one_without (scope_from g line 0 rings) + unscoped g rings lines
