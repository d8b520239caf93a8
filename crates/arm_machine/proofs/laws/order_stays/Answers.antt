use Rattle.arm_machine.proofs.StepLemmas.{step_orderly}
use Rattle.arm_machine.proofs.laws.order_stays.Goals as goal

pub returns : goal.returns
returns c image t s insn found = step_orderly image t s insn found
