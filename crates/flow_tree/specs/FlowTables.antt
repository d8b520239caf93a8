-- Tables of a function's levels, and the nest that they describe.
use Rattle.std.specs.Prelude.{◌≡◌, ℕ, zero, suc, ◌+◌, ◌<◌, if◌then◌else◌, nat_eq, List, length, Option, Some, None}
use Rattle.std.specs.Prelude.{slice_get}
use Rattle.wsym_terms.specs.declared.trees.BlockUses.{BlockUses}
use Rattle.wsym_terms.specs.declared.trees.Tree.{Tree}
use Rattle.wsym_terms.specs.declared.trees.Tree.TheVariants.{Leaf}
use Rattle.interval_loops.specs.declared.nest.LoopNest.{LoopNest}
use Rattle.interval_loops.specs.Nests.{header_or, inner_of, parent_of}
use Rattle.tree_law.specs.Ways.{IsIn}
use Rattle.tree_law.specs.Levels.{IsEnd, Level, Nest, loop_tree, node_tree}
use Rattle.node_elimination.specs.declared.cells.Cell.{Cell}
use Rattle.node_elimination.specs.Cells.{node_cell}
use Rattle.node_elimination.specs.GivenLevels.{edges_of}
use Rattle.node_elimination.specs.LevelStates.{IsTask}
use Rattle.flow_tree.specs.LevelTasks.{task_of}
use Rattle.flow_tree.specs.declared.tables.LevelRows.{LevelRows}
use Rattle.flow_tree.specs.declared.tables.LoopTree.{LoopTree}
use Rattle.flow_tree.specs.declared.tables.PathRows.{PathRows}

-- the header of a loop, where the number of blocks is given
abbrev pub header_by : ℕ → LoopNest → ℕ → ℕ
header_by count n zero = count
header_by count n (suc d) = header_or count (slice_get n.loops d)

-- the loop for which a node of a level stands
abbrev pub child_by : ℕ → LoopNest → ℕ → ℕ → Option ℕ
child_by count n c v =
    if nat_eq (inner_of n v) 0 then None
    else (if nat_eq (parent_of n (inner_of n v)) c
    then (if nat_eq (header_by count n (inner_of n v)) v then Some (inner_of n v) else None) else None)

-- the tree of a loop
abbrev pub tree_of_loop : Nest → (ℕ → ℕ) → ℕ → Tree
tree_of_loop n height d = loop_tree d (node_tree n (suc (height d)) d) (n.level d)

-- the trees that are there, of loops and of blocks
abbrev pub of_table : Option (Option LoopTree) → Option LoopTree
of_table None = None
of_table (Some t) = t

abbrev pub tree_in : Option LoopTree → Option Tree
tree_in None = None
tree_in (Some t) = Some t.tree

abbrev pub cell_in : Option LoopTree → Option Cell
cell_in None = None
cell_in (Some t) = Some t.cell

abbrev pub node_had : ℕ → List (Option LoopTree) → Option BlockUses → Option ℕ → Option Tree
node_had v trees None child = None
node_had v trees (Some b) None = Some (Leaf v b.base b.uses)
node_had v trees (Some b) (Some d) = tree_in (of_table (slice_get trees d))

abbrev pub leaf_cell : BlockUses → Cell
leaf_cell b = record { count = 1; leaves = 1; size = 1 + length b.uses; depth = 1 }

abbrev pub cell_had : List (Option LoopTree) → Option BlockUses → Option ℕ → Option Cell
cell_had trees None child = None
cell_had trees (Some b) None = Some (leaf_cell b)
cell_had trees (Some b) (Some d) = cell_in (of_table (slice_get trees d))

-- the rows say what the level says of one of its ends
pub record AreRows (l : Level) (t : ℕ) (r : PathRows) : Type 0 where
  pub nodes : l.nodes t ≡ r.nodes
  pub edges : (p q : ℕ) → l.useful t p q ≡ edges_of r.edges p q

-- the nest that the tables describe, with the numbers of blocks and of the ends
pub record AreTables (count close leave : ℕ) (nest : LoopNest) (levels : List LevelRows) (blocks : List BlockUses)
    (n : Nest) : Type 0 where
  pub headers : (c : ℕ) → (n.level c).header ≡ header_by count nest c
  pub closes : (c : ℕ) → (n.level c).close ≡ close
  pub leaves : (c : ℕ) → (n.level c).leave ≡ leave
  pub children : (c v : ℕ) → n.child c v ≡ child_by count nest c v
  pub turning : (c : ℕ) (l : LevelRows) → slice_get levels c ≡ Some l → AreRows (n.level c) close l.turns
  pub leaving : (c : ℕ) (l : LevelRows) → slice_get levels c ≡ Some l → AreRows (n.level c) leave l.leaves
  pub costs : (b : ℕ) (u : BlockUses) → slice_get blocks b ≡ Some u → (n.base b ≡ u.base) × (n.uses b ≡ u.uses)
  pub inside : (c t v : ℕ) → IsEnd (n.level c) t → IsIn v ((n.level c).nodes t) → v < count

-- each level is a task, and loops lie lower than those round them
pub record AreTasks (n : Nest) (height : ℕ → ℕ) (rank : ℕ → ℕ → ℕ) : Type 0 where
  pub tasks : (c t : ℕ) → IsEnd (n.level c) t → IsTask (task_of n height c t) (rank c)
  pub lower : (c v d : ℕ) → n.child c v ≡ Some d → height d < height c

-- the trees of loops that are there are those of the definition
abbrev pub AreTrees : Nest → (ℕ → ℕ) → List (Option LoopTree) → Type 0
AreTrees n height trees = (d : ℕ) (t : LoopTree) → of_table (slice_get trees d) ≡ Some t
    → (t.tree ≡ tree_of_loop n height d) × (t.cell ≡ node_cell (tree_of_loop n height d))
