-- Where a block stands in a level, and where an edge of the flow goes in it.
use Rattle.std.specs.Prelude.{ℕ, List, [], ◌∷◌, ◌++◌, Bool, if◌then◌else◌, nat_eq, nat_lt, Option, Some, None}
use Rattle.graph_search.specs.Flows.{Flow}
use Rattle.graph_search.specs.NodeLists.{holds}
use Rattle.interval_loops.specs.declared.nest.LoopNest.{LoopNest}
use Rattle.interval_loops.specs.Nests.{around_of, inner_of}
use Rattle.interval_loops.specs.Rounds.{after}
use Rattle.flow_tree.specs.FlowTables.{header_by}
use Rattle.level_tables.specs.declared.places.LevelPlaces.{LevelPlaces}

-- the block that stands for a block in a level
abbrev pub node_by : ℕ → LoopNest → ℕ → ℕ → ℕ
node_by count n c b = if nat_eq (inner_of n b) c then b else header_by count n (after c (0 ∷ around_of n b))

-- whether a block is in a level
abbrev pub within_level : ℕ → LoopNest → ℕ → ℕ → Bool
within_level count n c b = if nat_eq c 0 then nat_lt b count else holds nat_eq c (around_of n b)

-- The node or the end to which an edge leads in a level, from the node `from` to the block v; an edge that stays inside
-- a node leads nowhere.
abbrev pub target_by : LevelPlaces → ℕ → ℕ → Option ℕ
target_by s from v =
    if within_level s.count s.nest.now s.level v
    then (if nat_eq v (header_by s.count s.nest.now s.level) then Some s.close
    else (if nat_eq from (node_by s.count s.nest.now s.level v) then None
    else Some (node_by s.count s.nest.now s.level v)))
    else Some s.leave

-- ---- the edges of a level

abbrev pub and_edge : ℕ → Option ℕ → List (ℕ × ℕ) → List (ℕ × ℕ)
and_edge from None rest = rest
and_edge from (Some to) rest = (from, to) ∷ rest

-- where edges from a node lead
abbrev pub edges_from : LevelPlaces → ℕ → List ℕ → List (ℕ × ℕ)
edges_from s from [] = []
edges_from s from (v ∷ vs) = and_edge from (target_by s from v) (edges_from s from vs)

-- the edges that a block gives a level: where its own lead, and to the end where control leaves
abbrev pub edges_of_block : LevelPlaces → Flow → ℕ → List (ℕ × ℕ)
edges_of_block s flow u = edges_from s (node_by s.count s.nest.now s.level u) (flow.next u)
    ++ (if flow.returns u then (node_by s.count s.nest.now s.level u, s.leave) ∷ [] else [])

abbrev pub edges_of_blocks : LevelPlaces → Flow → List ℕ → List (ℕ × ℕ)
edges_of_blocks s flow [] = []
edges_of_blocks s flow (u ∷ us) = edges_of_block s flow u ++ edges_of_blocks s flow us

-- the edges of a level, the whole function's with that from the start to the node of the entry
abbrev pub edges_of_places : LevelPlaces → Flow → List ℕ → List (ℕ × ℕ)
edges_of_places s flow blocks = (if nat_eq s.level 0
    then (header_by s.count s.nest.now s.level, node_by s.count s.nest.now s.level flow.entry) ∷ [] else [])
    ++ edges_of_blocks s flow blocks
