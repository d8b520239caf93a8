-- The analysis that a graph makes with its loops, the uses of its blocks and the levels of its tree.
use Rattle.std.specs.Prelude.{ℕ, ◌+◌, ◌-◌, List, [], ◌∷◌, Option, get_or, map}
use Rattle.graph_search.specs.Flows.{edge}
use Rattle.control_flow.specs.Points.{Point, entry_point}
use Rattle.basic_blocks.specs.Blocks.{Chain}
use Rattle.interval_loops.specs.declared.nest.LoopNest.{LoopNest}
use Rattle.interval_loops.specs.Nests.{around_of, depth_of, loops_of}
use Rattle.interval_loops.specs.Rounds.{round_by, within_by}
use Rattle.tree_law.specs.Levels.{Nest}
use Rattle.flow_graph.specs.declared.graph.BlockGraph.{BlockGraph}
use Rattle.flow_graph.specs.Flow.{flow_in}
use Rattle.flow_graph.specs.Graphs.{graph_points, returns_in}
use Rattle.block_points.specs.declared.tables.BlockPoints.{BlockPoints}
use Rattle.block_points.specs.Numbering.{all_points}
use Rattle.line_uses.specs.PointMaps.{PointMaps, block_of, code_of}
use Rattle.line_uses.specs.Scopes.{scope_in}
use Rattle.cycle_bounds.specs.Analyses.{Analysis}

-- the tables in which uses are looked for
abbrev pub maps_of : LoopNest → BlockPoints → PointMaps
maps_of n p = record { next = p.next; before = p.before; lines = p.lines; home = p.home; around = n.around }

abbrev pub chain_of : List ℕ → Chain ℕ
chain_of [] = record { first = 0; rest = [] }
chain_of (p ∷ ps) = record { first = p; rest = ps }

-- the point with a number
abbrev pub point_at : BlockGraph → ℕ → Point
point_at g i = get_or (graph_points (returns_in g.contexts) (all_points g.blocks)) i (entry_point g.entry)

-- What a graph, its loops, its numbered points, the scopes of their uses and levels say. The ranks of blocks are those
-- of some order in which each edge that closes no loop rises.
abbrev pub analysis_of : BlockGraph → LoopNest → BlockPoints → List (Option ℕ) → (ℕ → ℕ) → Nest → Analysis
analysis_of g n p scopes rank nest = record {
  point = point_at g;
  blocks = map chain_of p.rows;
  block_of = block_of (maps_of n p);
  code = code_of (maps_of n p);
  scope = scope_in scopes;
  entry = g.entry_block;
  next = edge (flow_in g);
  ends = (flow_in g).returns;
  within = within_by (flow_in g) (around_of n);
  loops = loops_of (flow_in g) n;
  at = depth_of n;
  height = λ d. 16 - depth_of n d;
  round = round_by (around_of n);
  rank = rank;
  close = (flow_in g).count + 1;
  leave = (flow_in g).count + 2;
  top = (flow_in g).count + 1;
  nest = nest;
}
