use Rattle.graph_reduction.proofs.EndLemmas.{reduction_ends, reduced_agree}
use Rattle.graph_reduction.proofs.reduction_ends.Goals as goal

pub returns : goal.returns
returns c = record { ends = reduction_ends; one = reduced_agree }
