use Rattle.farkas.proofs.Soundness.{empty_proof_empties}
use Rattle.farkas.proofs.laws.empty_proofs_are_sound.Goals as goal

pub returns : goal.returns
returns c = empty_proof_empties
