use Rattle.std.proofs.Common.{◌-◌}
use Rattle.copy_facts.proofs.StartLemmas.{start_cell}
use Rattle.copy_facts.proofs.StepLemmas.{PartlyStepped}
use Rattle.copy_facts.proofs.start.start_registers.Given as goal

abbrev pub invariant-loop-at : goal.invariant-loop-at
invariant-loop-at l = PartlyStepped start_cell l.at l.registers

abbrev pub decreases-loop-at : goal.decreases-loop-at
decreases-loop-at l = 15 - l.at
