use Rattle.line_uses.proofs.BlockRowLemmas.{are_maps}
use Rattle.line_uses.proofs.laws.blocks_of_a_nest_are_a_function.Goals as goal

pub returns : goal.returns
returns c = are_maps
