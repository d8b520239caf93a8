use Rattle.std.proofs.Common.{◌∙◌, sym}
use Rattle.tree_cases.proofs.GraphLemmas.{graph_reached}
use Rattle.tree_cases.proofs.graphs.tree_text.Goals as goal

pub tree_in-requires-clause-reached : goal.tree_in-requires-clause-reached
tree_in-requires-clause-reached c =
    graph_reached c.new-graph.result c.from_vec.result c.as_slice.result.now c.args.entry c.in_ok-returns.returns c.new-graph.ensures
    (c.from_vec.ensures ∙ sym c.as_slice.ensures.value) (c.in_ok-are_reached.ensures c.if-not-branch.false)
