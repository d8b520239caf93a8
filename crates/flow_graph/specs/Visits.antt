-- Visits of the blocks of a graph, one after another.
use Rattle.std.specs.Prelude.{◌≡◌, ℕ, true, Some, List, [], ◌∷◌, map, slice_get}
use Rattle.graph_search.specs.Flows.{edge}
use Rattle.control_flow.specs.Points.{Point}
use Rattle.control_flow.specs.Routes.{Taken}
use Rattle.flow_graph.specs.declared.graph.Block.{Block}
use Rattle.flow_graph.specs.declared.graph.BlockGraph.{BlockGraph}
use Rattle.flow_graph.specs.Flow.{flow_in}
use Rattle.flow_graph.specs.Graphs.{graph_points, returns_in}

-- the ways that are taken begin exactly at the points of the block with this number, in order
abbrev pub IsVisit : BlockGraph → ℕ → List (Taken Point) → Type 0
IsVisit g k v = (b : Block) × (slice_get g.blocks k ≡ Some b) ×
    (map (λ (x : Taken Point). x.point) v ≡ graph_points (returns_in g.contexts) b.points)

-- the first visit is of the block with this number, each next one of a block to which an edge leads, and control leaves
-- the function from the last
abbrev pub AreBlockVisits : BlockGraph → ℕ → List (List (Taken Point)) → Type 0
AreBlockVisits g k [] = ⊥
AreBlockVisits g k (v ∷ []) = IsVisit g k v × ((flow_in g).returns k ≡ true)
AreBlockVisits g k (v ∷ w ∷ vs) =
    IsVisit g k v × ((j : ℕ) × (edge (flow_in g) k j ≡ true) × AreBlockVisits g j (w ∷ vs))
