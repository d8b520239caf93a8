use Rattle.std.proofs.Common.{◌∙◌, ap, ℕ, List}
use Rattle.graph_reduction.specs.Nodes.{number_in}
use Rattle.graph_reduction.proofs.ClosingEdgeLemmas.{closings_more}
use Rattle.graph_reduction.proofs.nodes.Nodes.closings.Goals as goal

pub loop-block-preserved : goal.loop-block-preserved
loop-block-preserved g c =
    closings_more (g.G.FlowGraph.flow c.args.graph.now)
    (number_in c.args.self.now.label.items) c.args.self.now.into c.loop-block.closing c.add_closings.new.closing c.row.result.now
    c.loop-block.block c.number_at-node.result
    c.row.ensures (c.number_at-node.ensures ∙ ap (λ
    (xs : List ℕ). number_in xs c.loop-block.block) c.as_slice.ensures.value) c.loop-block.invariant c.in_ok-add_closings.ensures
