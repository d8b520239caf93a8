use Rattle.std.proofs.Common.{◌-◌, length}
use Rattle.copy_facts.specs.Points.{stepped_entry}
use Rattle.copy_facts.proofs.StepLemmas.{PartlyOld}
use Rattle.copy_facts.proofs.stepping.step_old.Given as goal

abbrev pub invariant-loop-at : goal.invariant-loop-at
invariant-loop-at l = PartlyOld (stepped_entry l.stack l.site l.done l.facts) l.facts.words.items l.from l.to l.at l.out.items

abbrev pub decreases-loop-at : goal.decreases-loop-at
decreases-loop-at l = length l.facts.words.items - l.at
