use Rattle.std.proofs.Common.{◌-◌}
use Rattle.copy_facts.proofs.JoinedLemmas.{PartlyJoinedCells}
use Rattle.copy_facts.proofs.joining.join_registers.Given as goal

abbrev pub invariant-loop-at : goal.invariant-loop-at
invariant-loop-at l = PartlyJoinedCells l.stack l.fn.registers l.other l.at l.registers l.changed

abbrev pub decreases-loop-at : goal.decreases-loop-at
decreases-loop-at l = 15 - l.at
