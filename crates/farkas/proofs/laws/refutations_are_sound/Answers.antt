use Rattle.farkas.proofs.Soundness.{refutation_refutes}
use Rattle.farkas.proofs.laws.refutations_are_sound.Goals as goal

pub returns : goal.returns
returns c = refutation_refutes
