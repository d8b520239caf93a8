-- The tables of a function's points.
use Rattle.std.specs.Prelude.{◌≡◌, ℕ, List, get_or, map}
use Rattle.elf32_image.specs.Parts.{ImageValue}
use Rattle.control_flow.specs.Points.{Point, entry_point}
use Rattle.control_flow.specs.Ways.{ways_from}
use Rattle.function_points.specs.PointLists.{points_at}
use Rattle.basic_blocks.specs.Blocks.{points}
use Rattle.basic_blocks.specs.Chains.{is_flagged}
use Rattle.basic_blocks.specs.LivePoints.{before}
use Rattle.point_order.specs.Arrangements.{IsArranged}
use Rattle.flow_graph.specs.declared.graph.Block.{Block}
use Rattle.flow_graph.specs.declared.graph.FunctionGraph.{FunctionGraph}
use Rattle.flow_graph.specs.Graphs.{IsGraphOf, graph_points, returns_in}
use Rattle.point_tables.specs.Numbers.{AreLiveFlags, AreSources}
use Rattle.point_tables.specs.Tables.{AreBlockNumbers}
use Rattle.point_tables.specs.Targets.{AreTargets, step_in}

abbrev pub points_of : FunctionGraph → List Point
points_of f = points_at (returns_in f.graph.contexts) f.tables.points

-- the graph of a function, with its points by their numbers
pub record IsFunctionGraph (image : ImageValue) (entry : ℕ) (f : FunctionGraph) : Type 0 where
  pub graph : IsGraphOf image entry f.graph
  pub arranged : IsArranged image entry (returns_in f.graph.contexts) f.tables.points
  pub targets : AreTargets (ways_from image entry) (entry_point entry) (points_of f) f.tables.targets
  pub sources : AreSources (step_in f.tables.targets) (before f.tables.sources)
  pub live : AreLiveFlags (ways_from image entry) (entry_point entry) (points_of f) (is_flagged f.tables.live)
  pub chains : AreBlockNumbers (ways_from image entry) (entry_point entry) (points_of f) f.tables.chains
  pub cut : map (λ (b : Block). graph_points (returns_in f.graph.contexts) b.points) f.graph.blocks
      ≡ map (map (λ i. get_or (points_of f) i (entry_point entry))) f.tables.chains
