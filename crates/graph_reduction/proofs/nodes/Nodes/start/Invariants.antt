use Rattle.graph_reduction.specs.FirstNodes.{AreOwn, FirstEdges, FirstMembers}
use Rattle.graph_reduction.proofs.nodes.Nodes.start.Given as goal

abbrev pub invariant-loop-block : goal.invariant-loop-block
invariant-loop-block g l =
    record {
      label : AreOwn l.block l.label.items;
      owner : AreOwn l.block l.owner.items;
      members : FirstMembers l.block l.members;
      into : FirstEdges (g.G.FlowGraph.flow l.graph) l.block l.into;
    }
