use Rattle.simplifier.proofs.TreeSizes.{tree_is_small}
use Rattle.simplifier.proofs.laws.formulas_of_trees_are_small.Goals as goal

pub returns-clause-nodes : goal.returns-clause-nodes
returns-clause-nodes c = λ miss tree. (tree_is_small miss tree).nodes 0

pub returns-clause-nesting : goal.returns-clause-nesting
returns-clause-nesting c = λ miss tree. (tree_is_small miss tree).deep 0
