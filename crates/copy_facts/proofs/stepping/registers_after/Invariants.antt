use Rattle.std.proofs.Common.{◌-◌}
use Rattle.path_facts.specs.Facts.Location.{Register}
use Rattle.copy_facts.specs.Points.{stepped_state}
use Rattle.copy_facts.proofs.StepLemmas.{PartlyStepped}
use Rattle.copy_facts.proofs.stepping.registers_after.Given as goal

abbrev pub invariant-loop-at : goal.invariant-loop-at
invariant-loop-at l = PartlyStepped (λ r. (stepped_state l.stack l.site l.done l.facts).cell (Register r)) l.at l.registers

abbrev pub decreases-loop-at : goal.decreases-loop-at
decreases-loop-at l = 15 - l.at
