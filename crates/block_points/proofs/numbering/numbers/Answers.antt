use Rattle.std.proofs.Common.{arith}
use Rattle.block_points.proofs.LoopLemmas.{numbers_on}
use Rattle.block_points.proofs.numbering.numbers.Goals as goal

pub loop-at-preserved : goal.loop-at-preserved
loop-at-preserved c = (
  omega (arith, c.loop-at-test.true),
  numbers_on c.args.first c.args.count c.loop-at.at c.loop-at.numbers c.push.new.self c.loop-at-test.true c.in_ok-push.ensures.ok
      c.loop-at.invariant.1,
)
