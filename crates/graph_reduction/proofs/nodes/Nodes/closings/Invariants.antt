use Rattle.graph_reduction.specs.ClosingEdges.{FirstClosings}
use Rattle.graph_reduction.specs.Nodes.{number_in}
use Rattle.graph_reduction.proofs.nodes.Nodes.closings.Given as goal

abbrev pub invariant-loop-block : goal.invariant-loop-block
invariant-loop-block g l = FirstClosings (g.G.FlowGraph.flow l.graph) (number_in l.self.label.items) l.self.into l.block l.closing
