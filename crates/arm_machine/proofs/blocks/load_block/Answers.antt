use Rattle.std.proofs.Common.{sym, refl}
use Rattle.arm_machine.specs.Blocks.{load_block, registers_of}
use Rattle.arm_machine.proofs.Listing.{load_stops}
use Rattle.arm_machine.proofs.blocks.load_block.Goals as goal

pub returns-in-Err : goal.returns-in-Err
returns-in-Err c = (
  load_stops c.args.memory.now.bytes c.loop-register.address c.args.list c.loop-register.register c.loop-register.changed c.in-Err.stop (load_block c.args.memory.now.bytes c.args.lowest (registers_of c.args.list) c.args.cpu.now) c.loop-register-test.true (sym c.if-is_listed.ensures) (sym c.in-Err.ensures) c.loop-register.invariant,
  refl,
)
