use Rattle.std.proofs.Common.{arith}
use Rattle.wsym_io.proofs.Appending.{within_next, told_next}
use Rattle.wsym_io.proofs.sinks.write_all.Goals as goal

pub loop-at-preserved : goal.loop-at-preserved
loop-at-preserved g c = record {
  within = within_next c.args.text.now c.loop-at.at c.in_ok-at.field-0 c.loop-at.invariant.within c.in_ok-at.ensures.within;
  told =
      told_next (g.K.Sink.contents c.args.sink.now) (g.K.Sink.contents c.loop-at.sink) _ c.args.text.now c.loop-at.at
      c.in_ok-at.field-0 c.loop-at.invariant.told c.in_ok-at.ensures.taken;
  later = omega (arith, c.loop-at.invariant.later, c.in_ok-at.ensures.later);
}
