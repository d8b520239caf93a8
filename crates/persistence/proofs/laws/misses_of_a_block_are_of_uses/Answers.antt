use Rattle.persistence.proofs.MissLemmas.{misses_are_of_uses}
use Rattle.persistence.proofs.laws.misses_of_a_block_are_of_uses.Goals as goal

pub returns : goal.returns
returns c = misses_are_of_uses
