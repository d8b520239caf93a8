use Rattle.interval_loops.proofs.BlockOrderLemmas.{without_one}
use Rattle.interval_loops.proofs.order.take_out.Goals as goal

pub returns-in_ok-list_free-clause-less : goal.returns-in_ok-list_free-clause-less
returns-in_ok-list_free-clause-less c = without_one c.args.into.now c.remove.new.self c.args.target c.args.node c.args.block
    c.remove.ensures.updates.0
