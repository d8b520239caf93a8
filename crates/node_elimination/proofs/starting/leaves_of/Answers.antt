use Rattle.node_elimination.proofs.LevelStartLemmas.{leaves_step}
use Rattle.node_elimination.proofs.starting.leaves_of.Goals as goal

pub loop-cell-preserved : goal.loop-cell-preserved
loop-cell-preserved c = leaves_step c.args.cells.now c.loop-cell.cell-index _ c.loop-cell.made.items c.push.new.self.items
    c.in_ok-push.ensures.items c.loop-cell.invariant c.loop-cell-test.true
