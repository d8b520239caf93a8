use Rattle.std.proofs.Common.{get_or}
use Rattle.std.proofs.lemmas.List.{take_more}
use Rattle.graph_reduction.proofs.MoveLemmas.{next_moved}
use Rattle.graph_reduction.proofs.edges.move_row.Goals as goal

pub loop-target-preserved : goal.loop-target-preserved
loop-target-preserved c =
    next_moved c.args.into.now c.loop-target.into c.move_edge.new.into c.args.row.now c.loop-target.target-index
    (get_or c.args.row.now c.loop-target.target-index 0) c.args.source c.args.from c.args.to
    c.requires.apart c.requires.only (take_more c.args.row.now c.loop-target.target-index 0 c.loop-target-test.true) c.loop-target.invariant
    c.in_ok-move_edge.ensures
