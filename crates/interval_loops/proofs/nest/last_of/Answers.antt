use Rattle.interval_loops.proofs.NestLemmas.{last_taken}
use Rattle.interval_loops.proofs.nest.last_of.Goals as goal

pub loop-number-preserved : goal.loop-number-preserved
loop-number-preserved c = last_taken c.args.row.now c.loop-number.number-index 0 c.loop-number-test.true
