use Rattle.level_tables.proofs.OneTreeLemmas.{one_tree}
use Rattle.level_tables.proofs.laws.levels_have_one_tree.Goals as goal

pub returns : goal.returns
returns c = λ flow n uses a b is_a is_b k. one_tree flow n uses a b is_a is_b k
