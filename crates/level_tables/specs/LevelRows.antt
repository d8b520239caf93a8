-- The rows of a level: its edges, and what of them lies on paths from its header to an end.
use Rattle.std.specs.Prelude.{◌≡◌, ◌≢◌, ◌↔◌, ℕ, ◌+◌, ◌⊎◌, Bool, true, false, List, Some, None, slice_get}
use Rattle.graph_search.specs.Flows.{Flow, edge}
use Rattle.interval_loops.specs.declared.nest.LoopNest.{LoopNest}
use Rattle.interval_loops.specs.Loops.{node_in}
use Rattle.interval_loops.specs.Nests.{around_of, header_of, loops_of}
use Rattle.interval_loops.specs.Rounds.{within_by}
use Rattle.tree_law.specs.LevelEdges.{IsLevelEdge, Reaches}
use Rattle.tree_law.specs.Ways.{IsIn}
use Rattle.node_elimination.specs.GivenLevels.{edges_of}
use Rattle.node_elimination.specs.LevelStates.{Rises}
use Rattle.flow_tree.specs.declared.tables.LevelRows.{LevelRows}
use Rattle.level_tables.specs.ExactEdges.{IsExactEdge}
use Rattle.flow_tree.specs.declared.tables.PathRows.{PathRows}

-- from a node on, and up to one, over any edges or none
abbrev pub Onto : (ℕ → ℕ → Bool) → ℕ → ℕ → Type 0
Onto edged s p = (p ≡ s) ⊎ Reaches edged s p

abbrev pub Upto : (ℕ → ℕ → Bool) → ℕ → ℕ → Type 0
Upto edged t q = (q ≡ t) ⊎ Reaches edged q t

-- the rows have the edges on paths between two nodes, and the nodes between, which ascend
pub record ArePaths (edged : ℕ → ℕ → Bool) (s t : ℕ) (r : PathRows) : Type 0 where
  pub edges : (p q : ℕ) → (edges_of r.edges p q ≡ true) ↔ ((edged p q ≡ true) × Onto edged s p × Upto edged t q)
  pub nodes : (u : ℕ) → IsIn u r.nodes ↔ (Onto edged s u × Upto edged t u × (u ≢ s) × (u ≢ t))
  pub rising : Rises r.nodes

-- The list has the edges of a level: no others, and each that an edge of the graph is in it.
pub record AreEdgesIn (flow : Flow) (n : LoopNest) (c : ℕ) (es : List (ℕ × ℕ)) : Type 0 where
  pub real : (p q : ℕ) → edges_of es p q ≡ true → IsLevelEdge (loops_of flow n) (edge flow)
      (within_by flow (around_of n)) flow.entry (flow.count + 1) (flow.count + 2) c p q
  pub turns : (u v : ℕ) → within_by flow (around_of n) c u ≡ true → within_by flow (around_of n) c v ≡ true → edge flow
      u v ≡ true → v ≡ header_of flow n c → edges_of es (node_in (loops_of flow n) c u) (flow.count + 1) ≡ true
  pub goes : (u v : ℕ) → within_by flow (around_of n) c u ≡ true → within_by flow (around_of n) c v ≡ true → edge flow
      u v ≡ true → v ≢ header_of flow n c → node_in (loops_of flow n) c u ≢ node_in (loops_of flow n) c v
      → edges_of es (node_in (loops_of flow n) c u) (node_in (loops_of flow n) c v) ≡ true
  pub leaves : (u : ℕ) → within_by flow (around_of n) c u ≡ true → (flow.returns u ≡ true) ⊎ ((v : ℕ)
      × (edge flow u v ≡ true) × (within_by flow (around_of n) c v ≡ false))
      → edges_of es (node_in (loops_of flow n) c u) (flow.count + 2) ≡ true
  pub exact : (p q : ℕ) → edges_of es p q ≡ true → IsExactEdge flow n c p q
  pub first : c ≡ 0 → edges_of es (header_of flow n 0) (node_in (loops_of flow n) 0 flow.entry) ≡ true

-- the rows of a level say what lies on paths to its two ends, over the level's edges
pub record IsLevelIn (flow : Flow) (n : LoopNest) (c : ℕ) (r : LevelRows) : Type 0 where
  pub list : List (ℕ × ℕ)
  pub are : AreEdgesIn flow n c list
  pub turning : ArePaths (edges_of list) (header_of flow n c) (flow.count + 1) r.turns
  pub leaving : ArePaths (edges_of list) (header_of flow n c) (flow.count + 2) r.leaves

-- the rows of all levels by their numbers; beyond them there is none that has blocks
pub record AreLevelsIn (flow : Flow) (n : LoopNest) (rows : List LevelRows) : Type 0 where
  pub some : (c : ℕ) (r : LevelRows) → slice_get rows c ≡ Some r → IsLevelIn flow n c r
  pub none : (c b : ℕ) → slice_get rows c ≡ None → (c ≢ 0) × (within_by flow (around_of n) c b ≡ false)
