-- The levels of a flow graph with the nest of its loops, and what stands of each block in its leaf.
use Rattle.std.specs.Prelude.{◌≡◌, ℕ, ◌+◌, ◌≤◌, true, List, [], Some, None, length, slice_get}
use Rattle.wsym_terms.specs.Trees.{greatest_scope}
use Rattle.wsym_terms.specs.declared.trees.BlockUses.{BlockUses}
use Rattle.wsym_terms.specs.declared.trees.Tree.{Tree}
use Rattle.graph_search.specs.Flows.{Flow, edge}
use Rattle.interval_loops.specs.declared.nest.LoopNest.{LoopNest}
use Rattle.interval_loops.specs.Nests.{around_of, depth_of, inner_of, loops_of}
use Rattle.interval_loops.specs.Rounds.{within_by}
use Rattle.tree_law.specs.Levels.{Nest, function_tree}
use Rattle.tree_law.specs.LevelEdges.{AreLevels, EdgesOf}
use Rattle.flow_tree.specs.LevelTasks.{AreExact}
use Rattle.level_tables.specs.ExactEdges.{IsExactEdge}

-- The edges of the levels are those of the graph and no others, each level lists what lies on paths to its two ends,
-- whose numbers are the two after the start's, and the leaves have what is given of the blocks, and nothing else.
pub record IsLevelsOf (flow : Flow) (n : LoopNest) (uses : List BlockUses) (levels : Nest) : Type 0 where
  pub are : AreLevels (loops_of flow n) (edge flow) (within_by flow (around_of n)) flow.entry (depth_of n)
      (flow.count + 1) (flow.count + 2) levels
  pub all : EdgesOf (loops_of flow n) (edge flow) (within_by flow (around_of n)) flow.entry flow.returns levels
  pub exact : AreExact levels
  pub edges : (c p q : ℕ) → (levels.level c).edge p q ≡ true → IsExactEdge flow n c p q
  pub costs : (b : ℕ) (u : BlockUses) → slice_get uses b ≡ Some u → (levels.base b ≡ u.base) × (levels.uses b ≡ u.uses)
  pub others : (b : ℕ) → slice_get uses b ≡ None → (levels.base b ≡ 0) × (levels.uses b ≡ [])

-- what is given of the blocks' leaves: one for each block, whose uses have no scope inside a deeper loop than the
-- block's innermost
pub record AreUsesIn (flow : Flow) (n : LoopNest) (uses : List BlockUses) : Type 0 where
  pub all : length uses ≡ flow.count
  pub scopes : (b : ℕ) (u : BlockUses) → slice_get uses b ≡ Some u → greatest_scope u.uses ≤ depth_of n (inner_of n b)

-- the tree of the levels of a flow graph; all levels of it have this tree
abbrev pub IsTreeOf : Flow → LoopNest → List BlockUses → Tree → Type 0
IsTreeOf flow n uses t = (levels : Nest) × IsLevelsOf flow n uses levels × (t ≡ function_tree levels 17)
