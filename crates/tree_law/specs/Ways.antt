-- Ways between nodes, as lists of trees, and taking out a node; and the same of languages.
use Rattle.std.specs.Prelude.{◌≡◌, ◌≢◌, ℕ, ◌⊎◌, Bool, true, if◌then◌else◌, ◌||◌, nat_eq, List, [], ◌∷◌, ◌++◌, map}
use Rattle.wsym_terms.specs.declared.trees.Tree.{Tree}
use Rattle.wsym_terms.specs.declared.trees.Tree.TheVariants.{Seq, Alt}
use Rattle.interval_loops.specs.Trails.{Visit}
use Rattle.tree_law.specs.Pieces.{Then, Or}

-- the members of an edge with some ways
abbrev pub members : List (List Tree) → List Tree
members [] = []
members (w ∷ []) = w
members (w ∷ u ∷ ws) = Alt (map Seq (w ∷ u ∷ ws)) ∷ []

-- the way through a node, where both edges are there
abbrev pub through : List (List Tree) → Tree → List (List Tree) → List (List Tree)
through [] t out = []
through (a ∷ into) t [] = []
through (a ∷ into) t (b ∷ out) = (members (a ∷ into) ++ t ∷ members (b ∷ out)) ∷ []

abbrev pub taken_out : (ℕ → Tree) → ℕ → (ℕ → ℕ → List (List Tree)) → ℕ → ℕ → List (List Tree)
taken_out tree v ways p q = if nat_eq p v || nat_eq q v then [] else ways p q ++ through (ways p v) (tree v) (ways v q)

abbrev pub all_taken_out : (ℕ → Tree) → List ℕ → (ℕ → ℕ → List (List Tree)) → ℕ → ℕ → List (List Tree)
all_taken_out tree [] ways = ways
all_taken_out tree (v ∷ vs) ways = all_taken_out tree vs (taken_out tree v ways)

-- Languages between nodes: N of the nodes, L of the edges.
abbrev pub TakenOut : (ℕ → List Visit → Type 0) → ℕ → (ℕ → ℕ → List Visit → Type 0) → ℕ → ℕ → List Visit → Type 0
TakenOut N v L p q x = (p ≢ v) × (q ≢ v) × Or (L p q) (Then (L p v) (Then (N v) (L v q))) x

abbrev pub AllTakenOut : (ℕ → List Visit → Type 0) → List ℕ → (ℕ → ℕ → List Visit → Type 0) → ℕ → ℕ → List Visit
    → Type 0
AllTakenOut N [] L = L
AllTakenOut N (v ∷ vs) L = AllTakenOut N vs (TakenOut N v L)

-- a piece that goes from a node to another over some nodes
abbrev pub Track : (ℕ → List Visit → Type 0) → (ℕ → ℕ → List Visit → Type 0) → ℕ → ℕ → List ℕ → List Visit → Type 0
Track N L s t [] x = L s t x
Track N L s t (u ∷ us) x = Then (L s u) (Then (N u) (Track N L u t us)) x

abbrev pub IsIn : ℕ → List ℕ → Type 0
IsIn u [] = ⊥
IsIn u (v ∷ vs) = (u ≡ v) ⊎ IsIn u vs

-- the same over any nodes
abbrev pub Tracks : (ℕ → List Visit → Type 0) → (ℕ → ℕ → List Visit → Type 0) → ℕ → ℕ → List Visit → Type 0
Tracks N L s t x = (us : List ℕ) × Track N L s t us x

-- a path over some nodes
abbrev pub Path : (ℕ → ℕ → Bool) → ℕ → List ℕ → ℕ → Type 0
Path edge s [] t = edge s t ≡ true
Path edge s (u ∷ us) t = (edge s u ≡ true) × Path edge u us t

-- at the start each edge has one way, with no members, and its pieces no visits
abbrev pub edge_ways : (ℕ → ℕ → Bool) → ℕ → ℕ → List (List Tree)
edge_ways edge p q = if edge p q then [] ∷ [] else []

abbrev pub EdgePiece : (ℕ → ℕ → Bool) → ℕ → ℕ → List Visit → Type 0
EdgePiece edge p q x = (edge p q ≡ true) × (x ≡ [])
