use Rattle.std.proofs.lemmas.List.{take_more}
use Rattle.elimination_plans.specs.AddedWays.{listed}
use Rattle.elimination_plans.proofs.AddedWayLemmas.{next_rows}
use Rattle.elimination_plans.proofs.joining.add_all.Goals as goal

pub loop-from-preserved : goal.loop-from-preserved
loop-from-preserved c sources targets =
    next_rows c.args.sources.now c.args.targets.now c.loop-from.from-index c.args.entry (listed c.args.ways.now) (listed c.loop-from.ways)
    (listed c.add_row.new.ways) sources c.loop-from-test.true
    (take_more c.args.sources.now c.loop-from.from-index 0 c.loop-from-test.true) (c.loop-from.invariant sources targets)
    (c.in_ok-add_row.ensures targets)
