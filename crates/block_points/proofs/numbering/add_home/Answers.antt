use Rattle.block_points.proofs.LoopLemmas.{same_on}
use Rattle.std.proofs.Common.{◌++◌, arith}
use Rattle.std.specs.Prelude.{replicate}
use Rattle.block_points.proofs.numbering.add_home.Goals as goal

pub loop-at-preserved : goal.loop-at-preserved
loop-at-preserved c = (
  omega (arith, c.loop-at-test.true),
  same_on c.args.number c.args.count c.loop-at._at c.loop-at.home c.push.new.self (c.args.home.now ++ replicate c.args.count c.args.number)
      c.loop-at-test.true c.in_ok-push.ensures.ok c.loop-at.invariant.1,
)
