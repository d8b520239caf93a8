-- The numbered points of a graph, and the uses of cache lines of its blocks.
use Rattle.fetch_timing.specs.declared.timing.Timing.{Timing}
use Rattle.flow_graph.specs.declared.graph.BlockGraph.{BlockGraph}
use Rattle.interval_loops.specs.declared.nest.LoopNest.{LoopNest}
use Rattle.block_points.specs.Tables.{ArePoints}
use Rattle.line_uses.specs.Leaves.{AreUsesOf}
use Rattle.graph_analyses.specs.GraphAnalyses.{maps_of}
use Rattle.graph_uses.specs.declared.finding.GraphUses.{GraphUses}

pub record AreGraphUses (t : Timing) (g : BlockGraph) (n : LoopNest) (u : GraphUses) : Type 0 where
  pub points : ArePoints t g.blocks u.points
  pub uses : AreUsesOf t.sets t.ways t.miss (maps_of n u.points) u.points.rows u.points.costs u.uses
