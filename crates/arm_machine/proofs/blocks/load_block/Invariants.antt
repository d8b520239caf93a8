use Rattle.std.proofs.Common.{◌≡◌}
use Rattle.arm_machine.specs.Blocks.{load_block, registers_of}
use Rattle.arm_machine.proofs.Listing.{rest_of}
use Rattle.arm_machine.proofs.blocks.load_block.Given as goal

-- the registers that are left, from the registers so far, give what all give
abbrev pub invariant-loop-register : goal.invariant-loop-register
invariant-loop-register l = load_block l.memory.bytes l.address (rest_of l.list l.register) l.changed ≡ load_block l.memory.bytes l.lowest (registers_of l.list) l.cpu
