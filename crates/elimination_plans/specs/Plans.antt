-- Plans: which nodes the ways of edges go through, and the trees that they stand for.
use Rattle.std.specs.Prelude.{◌≡◌, ℕ, zero, suc, ◌+◌, ◌≤◌, max, List, [], ◌∷◌, ◌++◌, map, Option, Some, None, unwrap_or}
use Rattle.std.specs.Prelude.{slice_get}
use Rattle.std.specs.Ordering.{nat_cmp, ordering_then}
use Rattle.std.specs.declared.cmp.Ordering.{Ordering}
use Rattle.std.specs.BTreeMap as tree
use Rattle.wsym_terms.specs.declared.trees.Tree.{Tree}
use Rattle.tree_law.specs.Ways.{members, IsIn}
use Rattle.elimination_plans.specs.declared.plans.Plan.{Plan}
use Rattle.elimination_plans.specs.declared.plans.Piece.{Piece}
use Rattle.elimination_plans.specs.declared.plans.Piece.TheVariants.{Edge, Node}

abbrev pub pair_cmp : ℕ × ℕ → ℕ × ℕ → Ordering
pair_cmp x y = ordering_then (nat_cmp x.0 y.0) (nat_cmp x.1 y.1)

abbrev pub or_none : Option (List ℕ) → List ℕ
or_none None = []
or_none (Some ways) = ways

-- the ways of an edge
abbrev pub via : Plan → ℕ → ℕ → List ℕ
via plan p q = or_none (tree.get pair_cmp plan.ways (p, q))

abbrev pub node_of_plan : Plan → ℕ → ℕ
node_of_plan plan place = unwrap_or (slice_get plan.order place) 0

-- a way of an edge, where F has the ways of all edges
abbrev pub way_of : (ℕ → Tree) → (ℕ → ℕ) → (ℕ → ℕ → List (List Tree)) → ℕ → ℕ → ℕ → List Tree
way_of tree node F p q zero = []
way_of tree node F p q (suc j) = members (F p (node j)) ++ tree (node j) ∷ members (F (node j) q)

-- trees that are had are those of all nodes
abbrev pub Extends : (ℕ → Option Tree) → (ℕ → Tree) → Type 0
Extends had tree = (v : ℕ) (t : Tree) → had v ≡ Some t → t ≡ tree v

-- F has the ways that a plan says
abbrev pub Unrolls : (ℕ → Tree) → (ℕ → ℕ) → (ℕ → ℕ → List ℕ) → (ℕ → ℕ → List (List Tree)) → Type 0
Unrolls tree node ways F = (p q : ℕ) → F p q ≡ map (way_of tree node F p q) (ways p q)

abbrev pub top : List ℕ → ℕ
top [] = 0
top (i ∷ is) = max (suc i) (top is)

-- a way goes over edges of earlier ways alone
abbrev pub Falls : (ℕ → ℕ) → (ℕ → ℕ → List ℕ) → Type 0
Falls node ways = (p q j : ℕ) → IsIn (suc j) (ways p q) → (top (ways p (node j)) ≤ suc j)
    × (top (ways (node j) q) ≤ suc j)

-- the parts of a way, the last one first
abbrev pub entry_pieces : (ℕ → ℕ) → ℕ → ℕ → ℕ → List Piece
entry_pieces node p q zero = []
entry_pieces node p q (suc j) = Edge (node j) q ∷ Node (node j) ∷ Edge p (node j) ∷ []

abbrev pub piece_trees : (ℕ → Tree) → (ℕ → ℕ → List (List Tree)) → Piece → List Tree
piece_trees tree F (Edge p q) = members (F p q)
piece_trees tree F (Node v) = tree v ∷ []

-- what a stack stands for: its end comes first
abbrev pub stacked : (ℕ → Tree) → (ℕ → ℕ → List (List Tree)) → List Piece → List Tree
stacked tree F [] = []
stacked tree F (x ∷ xs) = stacked tree F xs ++ piece_trees tree F x

-- how deep the ways of a part go
abbrev pub height : (ℕ → ℕ → List ℕ) → Piece → ℕ
height ways (Edge p q) = top (ways p q)
height ways (Node v) = 0

abbrev pub high : (ℕ → ℕ → List ℕ) → List Piece → ℕ
high ways [] = 0
high ways (x ∷ xs) = max (height ways x) (high ways xs)

-- how often a stack is taken from, at most
abbrev pub effort : ℕ → ℕ
effort zero = 1
effort (suc h) = 2 + (effort h + effort h)

abbrev pub efforts : (ℕ → ℕ → List ℕ) → List Piece → ℕ
efforts ways [] = 0
efforts ways (x ∷ xs) = effort (height ways x) + efforts ways xs
