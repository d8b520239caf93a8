use Rattle.graph_reduction.proofs.StartLemmas.{row_more}
use Rattle.graph_reduction.proofs.nodes.add_row.Goals as goal

pub loop-target-preserved : goal.loop-target-preserved
loop-target-preserved c =
    row_more c.args.into.now c.loop-target.into c.insert.new.self c.args.row.now c.loop-target.target-index c.args.block
    c.loop-target-test.true c.loop-target.invariant c.in_ok-insert.ensures.updates.0
