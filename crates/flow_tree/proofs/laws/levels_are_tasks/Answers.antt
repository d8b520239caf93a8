use Rattle.flow_tree.proofs.LevelTaskLemmas.{level_task}
use Rattle.flow_tree.proofs.laws.levels_are_tasks.Goals as goal

pub returns : goal.returns
returns c = level_task
