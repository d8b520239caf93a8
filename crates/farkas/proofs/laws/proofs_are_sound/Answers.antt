use Rattle.farkas.proofs.Soundness.{proof_entails}
use Rattle.farkas.proofs.laws.proofs_are_sound.Goals as goal

pub returns : goal.returns
returns c = proof_entails
