use Rattle.std.proofs.Common.{◌≡◌, ℕ, ◌+◌, false}
use Rattle.std.specs.Prelude.{if◌then◌else◌, None}
use Rattle.graph_reduction.specs.Reduction.{start, step, reduced}
use Rattle.graph_reduction.specs.NodeStates.{state_in, AreWhole}
use Rattle.graph_reduction.proofs.EndLemmas.{measure}
use Rattle.graph_reduction.proofs.nodes.Nodes.reduce.Given as goal

abbrev pub invariant-loop-more : goal.invariant-loop-more
invariant-loop-more g l =
    record {
      whole : AreWhole (g.G.FlowGraph.flow l.graph) l.self;
      back : (n : ℕ) × (state_in (g.G.FlowGraph.flow l.graph) l.self ≡ reduced (g.G.FlowGraph.flow l.graph) n start);
      done : l.more ≡ false → step (g.G.FlowGraph.flow l.graph) (state_in (g.G.FlowGraph.flow l.graph) l.self) ≡ None;
    }

abbrev pub decreases-loop-more : goal.decreases-loop-more
decreases-loop-more g l = (if l.more then 1 else 0) + measure (g.G.FlowGraph.flow l.graph) (state_in (g.G.FlowGraph.flow l.graph) l.self)
