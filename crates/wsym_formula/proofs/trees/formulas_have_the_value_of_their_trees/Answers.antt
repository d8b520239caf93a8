use Rattle.wsym_formula.proofs.TreeValues.{formula_value}
use Rattle.wsym_formula.proofs.trees.formulas_have_the_value_of_their_trees.Goals as goal

pub returns : goal.returns
returns c = formula_value
