-- The parts of a report that a graph and its loops give.
use Rattle.std.specs.Prelude.{◌≡◌, ℕ, List, [], ◌∷◌, get_or, length, map}
use Rattle.fetch_timing.specs.declared.timing.Timing.{Timing}
use Rattle.wsym_terms.specs.declared.bounds.ParamRange.{ParamRange}
use Rattle.interval_loops.specs.declared.nest.LoopInfo.{LoopInfo}
use Rattle.interval_loops.specs.declared.nest.LoopNest.{LoopNest}
use Rattle.flow_graph.specs.declared.graph.BlockGraph.{BlockGraph}
use Rattle.flow_graph.specs.declared.graph.GraphPoint.{GraphPoint}
use Rattle.flow_graph.specs.declared.graph.Block.{Block}
use Rattle.flow_graph.specs.Graphs.{returns_in}
use Rattle.report_lines.specs.declared.report.Report.{Report}
use Rattle.report_lines.specs.declared.report.ReportBlock.{ReportBlock}
use Rattle.report_lines.specs.declared.report.ReportLoop.{ReportLoop}

-- a block with the address and the open calls of its first point
abbrev pub block_with : List (List ℕ) → List GraphPoint → ReportBlock
block_with lists [] = record { address = 0; points = 0; returns = [] }
block_with lists (p ∷ ps) =
    record { address = p.address; points = length (p ∷ ps); returns = get_or lists p.context [] }

abbrev pub block_in : List (List ℕ) → Block → ReportBlock
block_in lists b = block_with lists b.points

-- a loop without a bound
abbrev pub loop_in : LoopInfo → ReportLoop
loop_in i = record { header = i.header; depth = i.depth; bound = record { atoms = [] } }

abbrev pub blocks_of : BlockGraph → List ReportBlock
blocks_of g = map (block_in (returns_in g.contexts)) g.blocks

abbrev pub loops_of : LoopNest → List ReportLoop
loops_of n = map loop_in n.loops

-- The report has these parts; its loops have no bounds, and so it has no facts.
pub record HasParts (g : BlockGraph) (n : LoopNest) (t : Timing) (stack : ℕ) (params : List ParamRange)
    (r : Report) : Type 0 where
  pub version : r.version ≡ 1
  pub entry : r.entry ≡ g.entry
  pub stack_is : r.stack ≡ stack
  pub timing : r.timing ≡ t
  pub params_are : r.params ≡ params
  pub blocks : r.blocks ≡ blocks_of g
  pub loops : r.loops ≡ loops_of n
  pub rows : r.rows ≡ []
  pub facts : r.facts ≡ []
  pub proofs : r.proofs ≡ []
