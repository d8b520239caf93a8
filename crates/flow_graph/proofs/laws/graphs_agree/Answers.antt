use Rattle.control_flow.specs.Instructions.{instruction_at}
use Rattle.control_flow.specs.Points.{entry_point}
use Rattle.control_flow.specs.Ways.{ways_from}
use Rattle.flow_graph.proofs.AgreementLemmas.{one_graph, graph_or_refusal, one_refusal}
use Rattle.flow_graph.proofs.laws.graphs_agree.Goals as goal

pub returns-clause-one : goal.returns-clause-one
returns-clause-one c image entry g h a b = one_graph (ways_from image entry) (instruction_at image) (entry_point entry) g h a.graph b.graph

pub returns-clause-none : goal.returns-clause-none
returns-clause-none c image entry g r a w = graph_or_refusal image entry g r a w

pub returns-clause-refusal : goal.returns-clause-refusal
returns-clause-refusal c image entry r s v w n m = one_refusal image entry r s v w n m
