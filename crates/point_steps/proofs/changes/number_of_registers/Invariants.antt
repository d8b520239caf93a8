use Rattle.std.proofs.Common.{◌≡◌, ◌+◌, ◌≤◌, length}
use Rattle.arm_machine.specs.Blocks.{registers_of}
use Rattle.point_steps.proofs.Listed.{rest_of}
use Rattle.point_steps.proofs.changes.number_of_registers.Given as goal

-- those so far and those that are left are all
abbrev pub invariant-loop-listed : goal.invariant-loop-listed
invariant-loop-listed l =
    (l.number + length (rest_of l.list l.listed) ≡ length (registers_of l.list)) × (l.number ≤ l.listed)
