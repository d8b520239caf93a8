use Rattle.std.proofs.lemmas.List.{take_more}
use Rattle.elimination_plans.specs.AddedWays.{listed}
use Rattle.elimination_plans.proofs.AddedWayLemmas.{row_start, next_row}
use Rattle.elimination_plans.proofs.joining.add_row.Goals as goal

pub loop-to-init : goal.loop-to-init
loop-to-init c once = row_start c.args.from c.args.entry (listed c.args.ways.now)

pub loop-to-preserved : goal.loop-to-preserved
loop-to-preserved c once =
    next_row c.args.from c.args.targets.now c.loop-to.to-index c.args.entry (listed c.args.ways.now) (listed c.loop-to.ways)
    (listed c.add_way.new.ways) once c.loop-to-test.true
    (take_more c.args.targets.now c.loop-to.to-index 0 c.loop-to-test.true) (c.loop-to.invariant once) c.in_ok-add_way.ensures
