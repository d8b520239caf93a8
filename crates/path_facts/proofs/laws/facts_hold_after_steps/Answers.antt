use Rattle.path_facts.proofs.StepLemmas.{step_holds}
use Rattle.path_facts.proofs.laws.facts_hold_after_steps.Goals as goal

pub returns : goal.returns
returns c start stack has image t f s insn found constants h = step_holds start stack has image t f s insn found constants h
