use Rattle.graph_search.specs.Flows.{flow_of}
use Rattle.tree_cases.proofs.GraphLemmas.{uses_in}
use Rattle.tree_cases.proofs.graphs.tree_in.Goals as goal

pub tree-requires-clause-uses : goal.tree-requires-clause-uses
tree-requires-clause-uses c =
    uses_in (flow_of c.args.graph.now) c.in-Ok.nest c.args.uses.now c.requires.all c.requires.none
