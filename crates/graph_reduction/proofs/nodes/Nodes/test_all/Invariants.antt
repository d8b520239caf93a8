use Rattle.std.proofs.Common.{◌≡◌}
use Rattle.std.specs.Prelude.{nat_lt}
use Rattle.graph_reduction.specs.Nodes.{Refreshes}
use Rattle.graph_reduction.specs.NodeStates.{state_in}
use Rattle.graph_reduction.proofs.nodes.Nodes.test_all.Given as goal

abbrev pub invariant-loop-block : goal.invariant-loop-block
invariant-loop-block g l =
    record {
      same : (l.self.label ≡ l.fn.self.label) × (l.self.owner ≡ l.fn.self.owner) × (l.self.members ≡ l.fn.self.members) ×
          (l.self.into ≡ l.fn.self.into);
      tested : Refreshes (g.G.FlowGraph.flow l.graph) (state_in (g.G.FlowGraph.flow l.graph) l.fn.self)
          (λ q. nat_lt q l.block) l.fn.self.ones l.self.ones l.fn.self.twos l.self.twos;
    }
