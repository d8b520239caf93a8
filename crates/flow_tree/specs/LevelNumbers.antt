-- A level of a nest whose tables are given.
use Rattle.std.specs.Prelude.{◌≡◌, ℕ, suc, ◌+◌, ◌<◌, max, Bool, true, false, Option, Some, None, slice_get}
use Rattle.std.specs.Ordering.{nat_cmp}
use Rattle.std.specs.BTreeSet as set
use Rattle.std.specs.BTreeSet.{BTreeSet}
use Rattle.wsym_terms.specs.declared.trees.Tree.{Tree}
use Rattle.tree_law.specs.Ways.{IsIn}
use Rattle.tree_law.specs.Levels.{IsEnd, Nest, node_tree}
use Rattle.elimination_plans.specs.Plans.{Extends}
use Rattle.elimination_plans.specs.Stages.{Task}
use Rattle.node_elimination.specs.declared.cells.Cell.{Cell}
use Rattle.node_elimination.specs.Cells.{node_cell}
use Rattle.node_elimination.specs.GivenLevels.{edges_of}
use Rattle.flow_tree.specs.Descriptions.{IsTooLarge}
use Rattle.flow_tree.specs.FlowTables.{AreRows, AreTasks, cell_had, child_by, header_by, node_had}
use Rattle.flow_tree.specs.declared.nodes.LevelNodes.{LevelNodes}
use Rattle.flow_tree.specs.declared.tables.LevelRows.{LevelRows}
use Rattle.flow_tree.specs.declared.tables.PathRows.{PathRows}

-- the tree of a node and its numbers, where the tables have them
abbrev pub tree_for : LevelNodes → ℕ → Option Tree
tree_for s v = node_had v s.trees.now (slice_get s.blocks.now v) (child_by s.count s.nest.now s.level v)

abbrev pub cell_for : LevelNodes → ℕ → Option Cell
cell_for s v = cell_had s.trees.now (slice_get s.blocks.now v) (child_by s.count s.nest.now s.level v)

-- whether a node stands for one of some loops
abbrev pub large_in : BTreeSet ℕ → Option ℕ → Bool
large_in loops None = false
large_in loops (Some d) = set.contains nat_cmp loops d

abbrev pub large_for : LevelNodes → ℕ → Bool
large_for s v = large_in s.large.now (child_by s.count s.nest.now s.level v)

-- the nodes of the tables are those of the task, and the rows its nodes and edges
pub record IsTaskOf (s : LevelNodes) (rows : PathRows) (k : Task) : Type 0 where
  pub nodes : k.nodes ≡ rows.nodes
  pub edges : (p q : ℕ) → k.edge p q ≡ edges_of rows.edges p q
  pub below : (v : ℕ) → IsIn v k.nodes → v < s.count
  pub cells : (v : ℕ) (c : Cell) → IsIn v k.nodes → cell_for s v ≡ Some c → c ≡ node_cell (k.tree v)
  pub large : (v : ℕ) → IsIn v k.nodes → large_for s v ≡ true → IsTooLarge (k.tree v)

-- the tables have the level of a nest, and of its nodes no other trees
pub record IsLevelOf (n : Nest) (height : ℕ → ℕ) (rank : ℕ → ℕ → ℕ) (s : LevelNodes) (rows : LevelRows) : Type 0 where
  pub tasks : AreTasks n height rank
  pub header : (n.level s.level).header ≡ header_by s.count s.nest.now s.level
  pub close : (n.level s.level).close ≡ s.close
  pub leave : (n.level s.level).leave ≡ s.leave
  pub turning : AreRows (n.level s.level) s.close rows.turns
  pub leaving : AreRows (n.level s.level) s.leave rows.leaves
  pub below : (t v : ℕ) → IsEnd (n.level s.level) t → IsIn v ((n.level s.level).nodes t) → v < s.count
  pub trees : Extends (tree_for s) (node_tree n (suc (height s.level)) s.level)
  pub cells : (v : ℕ) (c : Cell) → cell_for s v ≡ Some c → c ≡ node_cell (node_tree n (suc (height s.level)) s.level v)
  pub large : (v : ℕ) → large_for s v ≡ true → IsTooLarge (node_tree n (suc (height s.level)) s.level v)

-- the numbers of a loop, from those of its header's tree and of what is between the header and the two ends
abbrev pub loop_cell : Cell → Cell → Cell → Cell
loop_cell h body exit = record {
  count = 1;
  leaves = (h.leaves + body.leaves) + (h.leaves + exit.leaves);
  size = (1 + (1 + (h.size + body.size))) + (1 + (h.size + exit.size));
  depth = 1 + max (1 + max h.depth body.depth) (1 + max h.depth exit.depth);
}
