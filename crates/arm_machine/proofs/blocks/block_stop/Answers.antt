use Rattle.std.proofs.Common.{sym}
use Rattle.arm_machine.specs.Blocks.{block_stop, registers_of}
use Rattle.arm_machine.proofs.Listing.{stop_found}
use Rattle.arm_machine.proofs.blocks.block_stop.Goals as goal

pub returns-in-Some-clause-stop : goal.returns-in-Some-clause-stop
returns-in-Some-clause-stop c =
    sym (stop_found c.args.image.now c.args.memory.now.bytes c.args.kept.now c.args.base c.loop-register.address c.args.list c.loop-register.register c.in-Some.stop (block_stop c.args.image.now c.args.memory.now.bytes c.args.kept.now c.args.base c.args.lowest (registers_of c.args.list)) c.loop-register-test.true (sym c.if-is_listed.ensures) (sym c.in-Some.ensures.stop) c.loop-register.invariant.stop)
