-- A run through the nodes of a level, which turns at closing edges and leaves at the end.
use Rattle.std.specs.Prelude.{◌≡◌, ℕ, zero, suc, ◌+◌, ◌≤◌, ◌⊎◌, Bool, true, List, [], ◌∷◌, ◌++◌, length, Option, Some}
use Rattle.std.specs.Prelude.{None}
use Rattle.wsym_terms.specs.Extents.{Extent, IsWithin}
use Rattle.interval_loops.specs.Trails.{Visit}
use Rattle.tree_law.specs.Pieces.{Same, Once, scope_at}
use Rattle.tree_law.specs.Ways.{Tracks, EdgePiece, members, all_taken_out, edge_ways}
use Rattle.tree_law.specs.NodeOrders.{order_of}
use Rattle.wsym_terms.specs.declared.trees.Tree.{Tree}
use Rattle.wsym_terms.specs.declared.trees.Tree.TheVariants.{Leaf, Seq, Loop}
use Rattle.wsym_terms.specs.declared.trees.Use.{Use}

-- along a closing edge to the header, or along an edge of the level to a node, and the piece there
pub data Step : Type 0 where
  Turns : (piece : List Visit) → Step
  Goes : (node : ℕ) (piece : List Visit) → Step

abbrev pub pieces : List Step → List Visit
pieces [] = []
pieces (Turns y ∷ xs) = y ++ pieces xs
pieces (Goes v y ∷ xs) = y ++ pieces xs

abbrev pub turned : List Step → ℕ
turned [] = 0
turned (Turns y ∷ xs) = 1 + turned xs
turned (Goes v y ∷ xs) = turned xs

-- A level: its edges, the header and the two ends, and for each end the edges on a path to it from the header, and
-- the nodes between.
pub record Level : Type 0 where
  pub edge : ℕ → ℕ → Bool
  pub useful : ℕ → ℕ → ℕ → Bool
  pub nodes : ℕ → List ℕ
  pub header : ℕ
  pub close : ℕ
  pub leave : ℕ

abbrev pub IsEnd : Level → ℕ → Type 0
IsEnd l t = (t ≡ l.close) ⊎ (t ≡ l.leave)

-- from a node that is done to the leaving
abbrev pub Inside : (ℕ → List Visit → Type 0) → Level → ℕ → List Step → Type 0
Inside N l u [] = l.edge u l.leave ≡ true
Inside N l u (Turns y ∷ xs) = (l.edge u l.close ≡ true) × N l.header y × Inside N l l.header xs
Inside N l u (Goes v y ∷ xs) = (l.edge u v ≡ true) × N v y × Inside N l v xs

-- one entry of the loop of a level, of no more turns than the bound, and steady
abbrev pub LoopRun : (ℕ → List Visit → Type 0) → Level → Extent → ℕ → List Visit → Type 0
LoopRun N l bound depth x = (y : List Visit) × (xs : List Step) × N l.header y × Inside N l l.header xs × IsWithin
    (turned xs) bound × (x ≡ y ++ pieces xs) × ((d : ℕ) → d ≤ depth + 1 → Same d (x ∷ []))

-- the nodes between two ends of a level, as they are taken out
abbrev pub taking : (ℕ → Tree) → Level → ℕ → ℕ → List ℕ
taking tree l s t = order_of tree s t (edge_ways (l.useful t)) (l.nodes t)

-- the tree between two nodes of a level
abbrev pub between : (ℕ → Tree) → Level → ℕ → ℕ → List Tree
between tree l s t = members (all_taken_out tree (taking tree l s t) (edge_ways (l.useful t)) s t)

-- the tree of a loop: the header and what runs to the next turn, and the header and what runs to the leaving
abbrev pub loop_tree : ℕ → (ℕ → Tree) → Level → Tree
loop_tree id tree l = Loop id (Seq (tree l.header ∷ between tree l l.header l.close))
    (Seq (tree l.header ∷ between tree l l.header l.leave))

-- A nest: the level of each loop by its number, whether a node of a level stands for a loop, and what each block costs
-- and uses.
pub record Nest : Type 0 where
  pub level : ℕ → Level
  pub child : ℕ → ℕ → Option ℕ
  pub base : ℕ → ℕ
  pub uses : ℕ → List Use

abbrev pub leaf_of : Nest → ℕ → Tree
leaf_of n v = Leaf v (n.base v) (n.uses v)

abbrev pub node_of : (ℕ → Tree) → Option ℕ → ℕ → (ℕ → ℕ → Tree) → (ℕ → Level) → Tree
node_of leaf None v trees levels = leaf v
node_of leaf (Some c) v trees levels = loop_tree c (trees c) (levels c)

-- the tree of a node of a level, where loops nest no deeper than the first number
abbrev pub node_tree : Nest → ℕ → ℕ → ℕ → Tree
node_tree n zero c v = Seq []
node_tree n (suc k) c v = node_of (leaf_of n) (n.child c v) v (node_tree n k) n.level

abbrev pub run_of : (ℕ → List Visit → Type 0) → (ℕ → Extent) → ℕ → Option ℕ → ℕ → (ℕ → ℕ → List Visit → Type 0) →
    (ℕ → Level) → List Visit → Type 0
run_of N bounds depth None v runs levels = N v
run_of N bounds depth (Some c) v runs levels = LoopRun (runs c) (levels c) (bounds c) depth

-- and what runs there, with the runs of blocks and the bounds of loops
abbrev pub NodeRun : Nest → (ℕ → List Visit → Type 0) → (ℕ → Extent) → ℕ → ℕ → ℕ → ℕ → List Visit → Type 0
NodeRun n N bounds zero depth c v = λ x. ⊥
NodeRun n N bounds (suc k) depth c v = run_of N bounds depth (n.child c v) v (NodeRun n N bounds k (depth + 1)) n.level

-- the tree of a function: level 0, whose header stands for the start and has no piece
abbrev pub function_tree : Nest → ℕ → Tree
function_tree n k = Seq (between (node_tree n k 0) (n.level 0) (n.level 0).header (n.level 0).leave)

abbrev pub FunctionRun : Nest → (ℕ → List Visit → Type 0) → (ℕ → Extent) → ℕ → List Visit → Type 0
FunctionRun n N bounds k = Tracks (NodeRun n N bounds k 0 0) (EdgePiece (n.level 0).edge) (n.level 0).header
    (n.level 0).leave

-- the visits of a block, and the scopes of its uses
abbrev pub BlockRun : ℕ → Nest → ℕ → List Visit → Type 0
BlockRun miss n v = Once miss v (n.base v) (length (n.uses v))

abbrev pub scopes_of : Nest → ℕ → ℕ → ℕ
scopes_of n v k = scope_at (n.uses v) k
