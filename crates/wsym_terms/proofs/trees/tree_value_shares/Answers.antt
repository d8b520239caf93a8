use Rattle.wsym_terms.proofs.TreeLaws.{tree_grows}
use Rattle.wsym_terms.proofs.trees.tree_value_shares.Goals as goal

pub returns : goal.returns
returns c = λ miss bounds tree depth. (tree_grows miss bounds tree depth).shares
