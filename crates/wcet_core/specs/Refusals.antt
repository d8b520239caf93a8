-- Why a function has no report.
use Rattle.std.specs.Prelude.{◌≢◌, ℕ}
use Rattle.elf32_image.specs.Parts.{ImageValue}
use Rattle.fetch_timing.specs.declared.timing.Timing.{Timing}
use Rattle.graph_search.specs.Flows.{Flow}
use Rattle.graph_reduction.specs.Loops.{IsIrreducible}
use Rattle.graph_reduction.specs.Reduction.{State, IsReduced}
use Rattle.interval_loops.specs.declared.nest.LoopNest.{LoopNest}
use Rattle.interval_loops.specs.declared.bodies.LoopRefusal.{LoopRefusal}
use Rattle.interval_loops.specs.declared.bodies.LoopRefusal.TheVariants as loops
use Rattle.interval_loops.specs.Nests.{IsNestOf}
use Rattle.interval_loops.specs.Tables.{IsDeeper}
use Rattle.tree_law.specs.Levels.{Nest, function_tree}
use Rattle.node_elimination.specs.declared.taking.TreeRefusal.{TreeRefusal}
use Rattle.node_elimination.specs.declared.taking.TreeRefusal.TheVariants as tree
use Rattle.flow_tree.specs.Descriptions.{IsTooLarge}
use Rattle.level_tables.specs.FlowLevels.{IsLevelsOf}
use Rattle.flow_graph.specs.declared.graph.BlockGraph.{BlockGraph}
use Rattle.flow_graph.specs.declared.graph.GraphRefusal.{GraphRefusal}
use Rattle.flow_graph.specs.declared.graph.GraphRefusal.TheVariants as graph
use Rattle.flow_graph.specs.Flow.{flow_in}
use Rattle.flow_graph.specs.Graphs.{IsGraphOf, IsRefusedGraph}
use Rattle.copy_facts.specs.declared.following.FrameRefusal.{FrameRefusal}
use Rattle.copy_facts.specs.declared.following.FrameRefusal.TheVariants as frames
use Rattle.copy_facts.specs.Frames.{IsRefusedFrame}
use Rattle.graph_uses.specs.GraphUses.{AreGraphUses}
use Rattle.graph_uses.specs.declared.finding.GraphUses.{GraphUses}
use Rattle.wcet_core.specs.Analyses.{IsFramed}
use Rattle.wcet_core.specs.declared.refusals.AnalysisRefusal.{AnalysisRefusal}
use Rattle.wcet_core.specs.declared.refusals.AnalysisRefusal.TheVariants.{Memory, Graph, Loops, Frames, TreeTooLarge}

-- ---- the refusals of the layers below: want of memory is one for all of them

abbrev pub of_graph : GraphRefusal → AnalysisRefusal
of_graph graph.Memory = Memory
of_graph graph.TooLarge = Graph graph.TooLarge
of_graph (graph.UnknownWord a) = Graph (graph.UnknownWord a)
of_graph (graph.OutsideCode a) = Graph (graph.OutsideCode a)
of_graph (graph.IndirectJump a) = Graph (graph.IndirectJump a)
of_graph (graph.Recursion a) = Graph (graph.Recursion a)
of_graph graph.NoReturn = Graph graph.NoReturn

abbrev pub of_loops : LoopRefusal → AnalysisRefusal
of_loops loops.Memory = Memory
of_loops loops.Irreducible = Loops loops.Irreducible
of_loops loops.TooDeep = Loops loops.TooDeep

abbrev pub of_frames : FrameRefusal → AnalysisRefusal
of_frames frames.Memory = Memory
of_frames (frames.Lost a) = Frames (frames.Lost a)
of_frames (frames.Over a o) = Frames (frames.Over a o)
of_frames (frames.Unproved a) = Frames (frames.Unproved a)

abbrev pub of_tree : TreeRefusal → AnalysisRefusal
of_tree tree.Memory = Memory
of_tree tree.TooLarge = TreeTooLarge

-- ---- causes, each where those before it don't stand

-- a cycle that no closing edge cuts; or else more than sixteen loops round a block
abbrev pub AreRefusedLoops : Flow → LoopRefusal → Type 0
AreRefusedLoops flow loops.Memory = Unit {0}
AreRefusedLoops flow loops.Irreducible = (s : State) × IsReduced flow s × IsIrreducible flow s.closed
AreRefusedLoops flow loops.TooDeep =
    (s : State) × IsReduced flow s × (IsIrreducible flow s.closed → ⊥) × IsDeeper flow s.closed 16

-- a graph, and a nest of its loops
abbrev pub HasNest : ImageValue → ℕ → Type 0
HasNest image entry = (g : BlockGraph) × IsGraphOf image entry g × ((n : LoopNest) × IsNestOf (flow_in g) n)

-- the tree of the levels of a graph's loops is too large
abbrev pub HasLargeTree : Timing → BlockGraph → LoopNest → Type 0
HasLargeTree t g n = (u : GraphUses) × AreGraphUses t g n u
    × ((levels : Nest) × IsLevelsOf (flow_in g) n u.uses.blocks levels × IsTooLarge (function_tree levels 17))

abbrev pub IsRefusedAnalysis : ImageValue → Timing → ℕ → ℕ → AnalysisRefusal → Type 0
IsRefusedAnalysis image t entry stack Memory = Unit {0}
IsRefusedAnalysis image t entry stack (Graph why) = (why ≢ graph.Memory) × IsRefusedGraph image entry why
IsRefusedAnalysis image t entry stack (Loops why) =
    (why ≢ loops.Memory) × ((g : BlockGraph) × IsGraphOf image entry g × AreRefusedLoops (flow_in g) why)
IsRefusedAnalysis image t entry stack (Frames why) =
    (why ≢ frames.Memory) × HasNest image entry × IsRefusedFrame image entry stack why
IsRefusedAnalysis image t entry stack TreeTooLarge = IsFramed image entry stack
    × ((g : BlockGraph) × IsGraphOf image entry g × ((n : LoopNest) × IsNestOf (flow_in g) n × HasLargeTree t g n))
