use Rattle.std.proofs.Common.{◌≡◌}
use Rattle.arm_machine.specs.Blocks.{AreAligned, block_stop, registers_of}
use Rattle.arm_machine.proofs.Listing.{rest_of}
use Rattle.arm_machine.proofs.blocks.block_stop.Given as goal

-- nothing stops so far
abbrev pub invariant-loop-register : goal.invariant-loop-register
invariant-loop-register l = record {
  stop : block_stop l.image l.memory.bytes l.kept l.base l.address (rest_of l.list l.register) ≡ block_stop l.image l.memory.bytes l.kept l.base l.lowest (registers_of l.list);
  aligned : AreAligned l.address (rest_of l.list l.register) → AreAligned l.lowest (registers_of l.list);
}
