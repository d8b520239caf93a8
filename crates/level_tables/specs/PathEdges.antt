-- The edges of a level that lie on paths from its header to an end.
use Rattle.std.specs.Prelude.{ℕ, Bool, false, ◌||◌, List, [], ◌∷◌, ◌&&◌, if◌then◌else◌, nat_eq}
use Rattle.graph_search.specs.NodeLists.{holds}

-- the edges that come from nodes ahead of the header and lead to nodes from which the end is reached
abbrev pub edges_between : List ℕ → List ℕ → List (ℕ × ℕ) → List (ℕ × ℕ)
edges_between ahead back [] = []
edges_between ahead back (e ∷ es) = if holds nat_eq e.0 ahead && holds nat_eq e.1 back
    then e ∷ edges_between ahead back es else edges_between ahead back es

-- whether an edge leads to a node that is neither of two
abbrev pub leads_inside : ℕ → ℕ → List (ℕ × ℕ) → ℕ → Bool
leads_inside s t [] u = false
leads_inside s t (e ∷ es) u = if nat_eq e.1 s then leads_inside s t es u
    else (if nat_eq e.1 t then leads_inside s t es u else (nat_eq u e.1 || leads_inside s t es u))
