use Rattle.path_facts.proofs.StepLemmas.{decoded}
use Rattle.path_facts.proofs.laws.instructions_are_guarded.Goals as goal

pub returns : goal.returns
returns c image a insn found = decoded image a insn found
