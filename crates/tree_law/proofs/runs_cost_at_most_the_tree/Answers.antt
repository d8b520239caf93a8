use Rattle.tree_law.proofs.NestLemmas.{function_bound}
use Rattle.tree_law.proofs.runs_cost_at_most_the_tree.Goals as goal

pub returns : goal.returns
returns c = function_bound
