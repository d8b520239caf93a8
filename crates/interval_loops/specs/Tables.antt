-- Tables of rows, and what a search back from a header meets.
use Rattle.std.specs.Prelude.{◌≡◌, ◌≢◌, ℕ, zero, suc, ◌<◌, ◌≤◌, Bool, true, if◌then◌else◌, nat_eq, Some, slice_get}
use Rattle.std.specs.Prelude.{slice_index_or, List, [], ◌∷◌, ◌++◌, length}
use Rattle.graph_search.specs.Rows.{row_in}
use Rattle.graph_search.specs.NodeLists.{holds, Distinct, MoreThan}
use Rattle.graph_search.specs.Flows.{Flow, edge, leads}
use Rattle.graph_reduction.specs.Loops.{InLoop}
use Rattle.graph_search.specs.Orders.{Rising}
use Rattle.interval_loops.specs.BlockOrders.{place}

-- from the header back along its closing edges, from other blocks along all edges
abbrev pub back_step : List (List ℕ) → List (List ℕ) → ℕ → ℕ → List ℕ
back_step closers before h x = if nat_eq x h then row_in closers x else row_in before x

-- the closing edges that a table has
abbrev pub closed_of : List (List ℕ) → ℕ → ℕ → Bool
closed_of closers u h = holds nat_eq u (row_in closers h)

-- the sources of closing edges and of all edges, by block
pub record AreSources (flow : Flow) (closers before : List (List ℕ)) : Type 0 where
  pub closers_size : length closers ≡ flow.count
  pub before_size : length before ≡ flow.count
  pub edges : (u h : ℕ) → closed_of closers u h ≡ true → edge flow u h ≡ true
  pub all : (h u : ℕ) → holds nat_eq u (row_in before h) ≡ edge flow u h
  pub below : (u h : ℕ) → edge flow u h ≡ true → (u < flow.count) × (h < flow.count)

-- a list of all blocks
pub record AreAll (flow : Flow) (order : List ℕ) : Type 0 where
  pub distinct : Distinct nat_eq order
  pub all : (b : ℕ) → b < flow.count → holds nat_eq b order ≡ true
  pub below : (b : ℕ) → holds nat_eq b order ≡ true → b < flow.count

-- a block to which an edge closes
abbrev pub IsHeader : (ℕ → ℕ → Bool) → ℕ → Type 0
IsHeader closed h = (u : ℕ) × (closed u h ≡ true)

-- some block has more loops round it
abbrev pub IsDeeper : Flow → (ℕ → ℕ → Bool) → ℕ → Type 0
IsDeeper flow closed most = (b : ℕ) × MoreThan nat_eq most (λ h. IsHeader closed h × InLoop
    (leads (edge flow)) closed h b)

-- headers by number, and the number of each block that is one, or 0
pub record AreNumbered (closers : List (List ℕ)) (i : ℕ) (headers numbers : List ℕ) : Type 0 where
  pub size : length numbers ≡ i
  pub none : (b : ℕ) → b < i → slice_index_or numbers b 0 ≡ 0 → row_in closers b ≡ []
  pub some : (d b : ℕ) → slice_index_or numbers b 0 ≡ suc d → slice_get headers d ≡ Some b
  pub back : (d b : ℕ) → slice_get headers d ≡ Some b → (slice_index_or numbers b 0 ≡ suc d) × (row_in closers b ≢ []) ×
      (b < i)
  pub rising : Rising (λ h. h) headers

-- the header of a number, and for other numbers a block that isn't there
abbrev pub header_in : List ℕ → ℕ → ℕ → ℕ
header_in headers start zero = start
header_in headers start (suc d) = slice_index_or headers d start

-- the loops round each block whose headers stand in the order before a place
pub record AreSoFar (flow : Flow) (closed : ℕ → ℕ → Bool) (order headers : List ℕ) (at : ℕ)
    (around : List (List ℕ)) : Type 0 where
  pub size : length around ≡ flow.count
  pub inside : (d b : ℕ) → holds nat_eq d (row_in around b) ≡ true → (e : ℕ) × (d ≡ suc e) ×
      (slice_get headers e ≡ Some (header_in headers flow.count d)) ×
      (place (header_in headers flow.count d) order < at) × InLoop (leads (edge flow)) closed
      (header_in headers flow.count d) b
  pub all : (e h b : ℕ) → slice_get headers e ≡ Some h → place h order < at → InLoop (leads (edge flow)) closed h b
      → holds nat_eq (suc e) (row_in around b) ≡ true
  pub rising : (b : ℕ) → Rising (λ d. place (header_in headers flow.count d) order) (row_in around b)
  pub few : (b : ℕ) → length (row_in around b) ≤ 16
