use Rattle.flow_graph.proofs.FlowLemmas.{all_reached, graph_bounded}
use Rattle.flow_graph.proofs.laws.graphs_are_flows.Goals as goal

pub returns-clause-bounded : goal.returns-clause-bounded
returns-clause-bounded c image entry g w = graph_bounded image entry g w

pub returns-clause-reached : goal.returns-clause-reached
returns-clause-reached c image entry g w b l = all_reached image entry g w b l
