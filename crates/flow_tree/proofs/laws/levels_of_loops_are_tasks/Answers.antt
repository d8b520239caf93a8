use Rattle.flow_tree.proofs.LevelsOfLoopsLemmas.{levels_tasks}
use Rattle.flow_tree.proofs.laws.levels_of_loops_are_tasks.Goals as goal

pub returns : goal.returns
returns c = levels_tasks
