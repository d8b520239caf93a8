use Rattle.arm_machine.proofs.ReturnLemmas.{return_brings}
use Rattle.arm_machine.proofs.laws.returns_bring_their_word.Goals as goal

pub returns : goal.returns
returns c image s o orderly form = return_brings image s o orderly form
