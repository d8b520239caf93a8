use Rattle.node_elimination.proofs.LevelStartLemmas.{zeros_step}
use Rattle.node_elimination.proofs.starting.no_edges.Goals as goal

pub loop-cell-preserved : goal.loop-cell-preserved
loop-cell-preserved c = zeros_step c.args.cells.now c.loop-cell._cell-index c.loop-cell.made.items c.push.new.self.items
    c.in_ok-push.ensures.items c.loop-cell.invariant c.loop-cell-test.true
