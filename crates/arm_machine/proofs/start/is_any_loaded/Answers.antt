use Rattle.std.proofs.Common.{sym}
use Rattle.arm_machine.specs.Starting.{is_any_loaded}
use Rattle.arm_machine.proofs.Loading.{not_loaded}
use Rattle.arm_machine.proofs.start.is_any_loaded.Goals as goal

pub loop-byte-preserved : goal.loop-byte-preserved
loop-byte-preserved c =
    not_loaded c.args.image.now c.loop-byte.at c.loop-byte._byte c.args.count (is_any_loaded c.args.image.now c.args.address c.args.count) c.loop-byte-test.true (sym c.if-is_loaded.ensures) c.loop-byte.invariant
