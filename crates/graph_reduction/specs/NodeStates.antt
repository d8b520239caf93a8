-- The nodes of the program.
use Rattle.graph_reduction.specs.declared.nodes.Nodes.{Nodes}
use Rattle.graph_search.specs.Flows.{Flow}
use Rattle.graph_reduction.specs.Nodes.{number_in, state_of, AreNodes}
use Rattle.graph_reduction.specs.Reduction.{State}

abbrev pub state_in : Flow → Nodes → State
state_in flow n = state_of flow (number_in n.label.items) (number_in n.owner.items) n.into

abbrev pub AreWhole : Flow → Nodes → Type 0
AreWhole flow n = AreNodes flow n.label.items n.owner.items n.members n.into n.ones n.twos
