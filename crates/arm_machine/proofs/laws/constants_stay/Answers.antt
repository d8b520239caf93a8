use Rattle.arm_machine.proofs.StepLemmas.{step_constants}
use Rattle.arm_machine.proofs.laws.constants_stay.Goals as goal

pub returns : goal.returns
returns c image t s insn found = step_constants image t s insn found
