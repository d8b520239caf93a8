use Rattle.flow_graph.proofs.FlowLemmas.{route_blocks}
use Rattle.flow_graph.proofs.laws.routes_visit_blocks.Goals as goal

pub returns : goal.returns
returns c image entry g xs w r p = route_blocks image entry g w xs r p
