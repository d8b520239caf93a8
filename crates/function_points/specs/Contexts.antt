-- Lists of open calls, each but the first its parent's with one return address more.
use Rattle.std.specs.Prelude.{◌≡◌, ℕ, suc, ◌<◌, Option, Some, List, [], ◌∷◌, ◌++◌, length, get_or, slice_get}
use Rattle.std.specs.Str.{bytes_eq}
use Rattle.std.specs.Ordering.{nat_cmp, ordering_then}
use Rattle.std.specs.declared.cmp.Ordering.{Ordering}
use Rattle.graph_search.specs.NodeLists.{Distinct}

abbrev pub pair_cmp : ℕ × ℕ → ℕ × ℕ → Ordering
pair_cmp x y = ordering_then (nat_cmp x.0 y.0) (nat_cmp x.1 y.1)

-- the list of a row: the parent's number, and the return address
abbrev pub row_list : List (List ℕ) → ℕ × ℕ → List ℕ
row_list ls row = get_or ls row.0 [] ++ row.1 ∷ []

abbrev pub lists_from : List (List ℕ) → List (ℕ × ℕ) → List (List ℕ)
lists_from ls [] = ls
lists_from ls (row ∷ rows) = lists_from (ls ++ row_list ls row ∷ []) rows

-- the lists of all contexts, the first of them the empty one
abbrev pub lists_of : List (ℕ × ℕ) → List (List ℕ)
lists_of rows = lists_from ([] ∷ []) rows

-- the table that looks children up is exact
pub record AreContexts (rows : List (ℕ × ℕ)) (look : ℕ × ℕ → Option ℕ) : Type 0 where
  pub long : length (lists_of rows) ≡ suc (length rows)
  pub root : slice_get (lists_of rows) 0 ≡ Some []
  pub list : (k : ℕ) (row : ℕ × ℕ) → slice_get rows k ≡ Some row → slice_get (lists_of rows) (suc k) ≡ Some
      (row_list (lists_of rows) row)
  pub under : (k : ℕ) (row : ℕ × ℕ) → slice_get rows k ≡ Some row → row.0 < suc k
  pub distinct : Distinct bytes_eq (lists_of rows)
  pub found : (row : ℕ × ℕ) (k : ℕ) → look row ≡ Some k → (j : ℕ) × (k ≡ suc j) × (slice_get rows j ≡ Some row)
  pub all : (j : ℕ) (row : ℕ × ℕ) → slice_get rows j ≡ Some row → look row ≡ Some (suc j)
