use Rattle.cycle_bounds.proofs.RunBoundLemmas.{run_bound}
use Rattle.cycle_bounds.proofs.laws.runs_cost_at_most_the_tree.Goals as goal

pub returns : goal.returns
returns c = run_bound
