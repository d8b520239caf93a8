use Rattle.copy_facts.proofs.StepLemmas.{stepped_on}
use Rattle.copy_facts.proofs.stepping.registers_after.Goals as goal

pub loop-at-preserved : goal.loop-at-preserved
loop-at-preserved c = stepped_on _ c.loop-at.at c.loop-at.registers c.register_after.result c.loop-at.invariant c.loop-at-test.true
    c.register_after.ensures
