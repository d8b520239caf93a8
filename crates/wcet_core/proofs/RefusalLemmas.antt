-- The refusals of the layers below are refusals of the analysis.
use Rattle.std.proofs.Common.{◌≡◌, ◌≢◌, ℕ, refl}
use Rattle.elf32_image.specs.Parts.{ImageValue}
use Rattle.fetch_timing.specs.declared.timing.Timing.{Timing}
use Rattle.graph_search.specs.Flows.{Flow}
use Rattle.graph_reduction.specs.Loops.{IsIrreducible}
use Rattle.graph_reduction.specs.Reduction.{State, IsReduced}
use Rattle.interval_loops.specs.declared.nest.LoopNest.{LoopNest}
use Rattle.interval_loops.specs.Nests.{IsNestOf}
use Rattle.interval_loops.specs.Tables.{IsDeeper}
use Rattle.node_elimination.specs.declared.taking.TreeRefusal.{TreeRefusal}
use Rattle.node_elimination.specs.declared.taking.TreeRefusal.TheVariants as tree
use Rattle.interval_loops.specs.declared.bodies.LoopRefusal.{LoopRefusal}
use Rattle.interval_loops.specs.declared.bodies.LoopRefusal.TheVariants as loops
use Rattle.flow_graph.specs.declared.graph.BlockGraph.{BlockGraph}
use Rattle.flow_graph.specs.declared.graph.GraphRefusal.{GraphRefusal}
use Rattle.flow_graph.specs.declared.graph.GraphRefusal.TheVariants as graph
use Rattle.flow_graph.specs.Flow.{flow_in}
use Rattle.flow_graph.specs.Graphs.{IsGraphOf, IsRefusedGraph}
use Rattle.copy_facts.specs.declared.following.FrameRefusal.{FrameRefusal}
use Rattle.copy_facts.specs.declared.following.FrameRefusal.TheVariants as frames
use Rattle.copy_facts.specs.Frames.{IsRefusedFrame}
use Rattle.wcet_core.specs.Analyses.{IsFramed}
use Rattle.wcet_core.specs.Refusals.{AreRefusedLoops, HasLargeTree, HasNest, IsRefusedAnalysis, of_frames, of_graph, of_loops}
use Rattle.wcet_core.specs.Refusals.{of_tree}

loops_found : (flow : Flow) (why : LoopRefusal)
    → (why ≡ loops.Irreducible → (s : State) × IsReduced flow s × IsIrreducible flow s.closed)
    → (why ≡ loops.TooDeep → (s : State) × IsReduced flow s × (IsIrreducible flow s.closed → ⊥) × IsDeeper flow s.closed 16)
    → AreRefusedLoops flow why
loops_found flow loops.Memory cyclic deep = tt
loops_found flow loops.Irreducible cyclic deep = cyclic refl
loops_found flow loops.TooDeep cyclic deep = deep refl

module _ (image : ImageValue) (t : Timing) (entry stack : ℕ) where
  pub graph_refused : (why : GraphRefusal) → IsRefusedGraph image entry why
      → IsRefusedAnalysis image t entry stack (of_graph why)
  graph_refused graph.Memory is = tt
  graph_refused graph.TooLarge is = (λ e. cc, is)
  graph_refused (graph.UnknownWord a) is = (λ e. cc, is)
  graph_refused (graph.OutsideCode a) is = (λ e. cc, is)
  graph_refused (graph.IndirectJump a) is = (λ e. cc, is)
  graph_refused (graph.Recursion a) is = (λ e. cc, is)
  graph_refused graph.NoReturn is = (λ e. cc, is)

  pub loops_refused : (g : BlockGraph) → IsGraphOf image entry g → (why : LoopRefusal)
      → (why ≡ loops.Irreducible → (s : State) × IsReduced (flow_in g) s × IsIrreducible (flow_in g) s.closed)
      → (why ≡ loops.TooDeep → (s : State) × IsReduced (flow_in g) s × (IsIrreducible (flow_in g) s.closed → ⊥)
      × IsDeeper (flow_in g) s.closed 16)
      → IsRefusedAnalysis image t entry stack (of_loops why)
  loops_refused g of why cyclic deep = by_cause why (loops_found (flow_in g) why cyclic deep)
    where
      by_cause : (why : LoopRefusal) → AreRefusedLoops (flow_in g) why → IsRefusedAnalysis image t entry stack (of_loops why)
      by_cause loops.Memory is = tt
      by_cause loops.Irreducible is = (λ e. cc, (g, of, is))
      by_cause loops.TooDeep is = (λ e. cc, (g, of, is))

  pub frames_refused : HasNest image entry → (why : FrameRefusal) → IsRefusedFrame image entry stack why
      → IsRefusedAnalysis image t entry stack (of_frames why)
  frames_refused nest frames.Memory is = tt
  frames_refused nest (frames.Lost a) is = (λ e. cc, nest, is)
  frames_refused nest (frames.Over a o) is = (λ e. cc, nest, is)
  frames_refused nest (frames.Unproved a) is = (λ e. cc, nest, is)

  pub tree_refused : IsFramed image entry stack → (g : BlockGraph) → IsGraphOf image entry g → (n : LoopNest) → IsNestOf (flow_in g) n
      → (why : TreeRefusal) → (why ≡ tree.TooLarge → HasLargeTree t g n) → IsRefusedAnalysis image t entry stack (of_tree why)
  tree_refused framed g of n nested tree.Memory large = tt
  tree_refused framed g of n nested tree.TooLarge large = (framed, (g, of, (n, nested, large refl)))
