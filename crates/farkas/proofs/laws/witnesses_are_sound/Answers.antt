use Rattle.farkas.proofs.Soundness.{witness_inhabits}
use Rattle.farkas.proofs.laws.witnesses_are_sound.Goals as goal

pub returns : goal.returns
returns c = witness_inhabits
