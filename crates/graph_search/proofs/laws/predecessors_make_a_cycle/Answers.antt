use Rattle.graph_search.proofs.SearchLemmas.{predecessors_cycle}
use Rattle.graph_search.proofs.laws.predecessors_make_a_cycle.Goals as goal

pub returns : goal.returns
returns c = predecessors_cycle
