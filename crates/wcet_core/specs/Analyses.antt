-- What the report of a function is made of.
use Rattle.std.specs.Prelude.{◌≡◌, ◌≤◌, ℕ, List}
use Rattle.elf32_image.specs.Parts.{ImageValue}
use Rattle.fetch_timing.specs.declared.timing.Timing.{Timing}
use Rattle.wsym_terms.specs.Trees.{size_of}
use Rattle.wsym_terms.specs.TreeNesting.{tree_nesting}
use Rattle.wsym_terms.specs.declared.bounds.ParamRange.{ParamRange}
use Rattle.wsym_formula.specs.Trees.{formula_of}
use Rattle.simplifier.specs.Normal.{normal}
use Rattle.simplifier.specs.Simplified.{known_of}
use Rattle.interval_loops.specs.declared.nest.LoopNest.{LoopNest}
use Rattle.interval_loops.specs.Nests.{IsNestOf}
use Rattle.level_tables.specs.FlowLevels.{IsTreeOf}
use Rattle.flow_graph.specs.declared.graph.BlockGraph.{BlockGraph}
use Rattle.flow_graph.specs.Flow.{flow_in}
use Rattle.flow_graph.specs.Graphs.{IsGraphOf}
use Rattle.flow_graph.specs.Tables.{IsFunctionGraph}
use Rattle.copy_facts.specs.Frames.{NoneLost, NoneOver, NoneUnproved}
use Rattle.graph_uses.specs.GraphUses.{AreGraphUses}
use Rattle.graph_uses.specs.declared.finding.GraphUses.{GraphUses}
use Rattle.report_lines.specs.declared.report.Report.{Report}
use Rattle.report_bounds.specs.Promises.{IsKept, printed_bounds}
use Rattle.graph_reports.specs.Parts.{HasParts}
use Rattle.wcet_core.specs.declared.structures.Structure.{Structure}

-- the graph of a function with all its points, and the nest of its loops
pub record IsStructureOf (image : ImageValue) (entry : ℕ) (s : Structure) : Type 0 where
  pub function : IsFunctionGraph image entry s.function
  pub nest : IsNestOf (flow_in s.function.graph) s.nest

-- all paths follow the stack: r13 is known at each access by it, none goes beyond the stack's bytes, and each return
-- brings its own return address
pub record IsFramed (image : ImageValue) (entry stack : ℕ) : Type 0 where
  pub lost : NoneLost image entry stack
  pub over : NoneOver image entry stack
  pub unproved : NoneUnproved image entry stack

-- The report of a graph and its loops: with the tree of their levels, which isn't too large, over the uses of the
-- blocks, and with the normal form of its formula.
pub record IsMadeOf (t : Timing) (stack : ℕ) (params : List ParamRange) (g : BlockGraph) (n : LoopNest)
    (r : Report) : Type 0 where
  pub parts : HasParts g n t stack params r
  pub uses : GraphUses
  pub are_uses : AreGraphUses t g n uses
  pub tree : IsTreeOf (flow_in g) n uses.uses.blocks r.tree
  pub size : size_of r.tree ≤ 500000
  pub nesting : tree_nesting r.tree ≤ 1000
  pub formula : r.formula ≡ normal (known_of (printed_bounds r)) (formula_of t.miss r.tree)

-- The report of a function: of its graph and its loops, where its use of the stack is followed, and with what a report
-- promises.
pub record IsAnalysed (image : ImageValue) (t : Timing) (entry stack : ℕ) (params : List ParamRange)
    (r : Report) : Type 0 where
  pub graph : BlockGraph
  pub nest : LoopNest
  pub is_graph : IsGraphOf image entry graph
  pub is_nest : IsNestOf (flow_in graph) nest
  pub framed : IsFramed image entry stack
  pub made : IsMadeOf t stack params graph nest r
  pub kept : IsKept image t entry stack r
