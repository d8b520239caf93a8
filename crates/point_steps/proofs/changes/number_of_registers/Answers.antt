use Rattle.std.proofs.Common.{rules, length, arith}
use Rattle.arm_machine.specs.Blocks.{registers_of}
use Rattle.point_steps.proofs.Listed.{count_on, count_skip}
use Rattle.point_steps.proofs.changes.number_of_registers.Goals as goal

pub loop-listed-preserved-then-not-is_listed : goal.loop-listed-preserved-then-not-is_listed
loop-listed-preserved-then-not-is_listed c = (
  count_skip c.args.list c.loop-listed.listed c.loop-listed.number (length (registers_of c.args.list)) (search rules) (search rules)
      c.loop-listed.invariant.0,
  omega (arith, c.loop-listed.invariant.1),
)

pub loop-listed-preserved : goal.loop-listed-preserved
loop-listed-preserved c = (
  count_on c.args.list c.loop-listed.listed c.loop-listed.number (length (registers_of c.args.list)) (search rules) (search rules)
      c.loop-listed.invariant.0,
  omega (arith, c.loop-listed.invariant.1),
)
