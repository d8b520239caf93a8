-- Tables that have a row of numbers for each node.
use Rattle.std.specs.Prelude.{◌≡◌, ℕ, if◌then◌else◌, nat_eq, List, [], ◌∷◌, ◌++◌, length, slice_index_or}

-- the row of a node; a node past the table's end has none
abbrev pub row_in : List (List ℕ) → ℕ → List ℕ
row_in rows node = slice_index_or rows node []

-- one row has one number more at its end, the others stay
abbrev pub RowMore : List (List ℕ) → List (List ℕ) → ℕ → ℕ → Type 0
RowMore old new node number = (length new ≡ length old) × ((q : ℕ) → row_in new q ≡
    (if nat_eq q node then row_in old q ++ number ∷ [] else row_in old q))
