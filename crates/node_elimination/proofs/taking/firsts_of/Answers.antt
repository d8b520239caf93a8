use Rattle.node_elimination.proofs.TakenNodeLemmas.{firsts_step}
use Rattle.node_elimination.proofs.taking.firsts_of.Goals as goal

pub loop-each-preserved : goal.loop-each-preserved
loop-each-preserved c = firsts_step c.args.list.now c.loop-each.each-index _ c.loop-each.made.items c.push.new.self.items
    c.in_ok-push.ensures.items c.loop-each.invariant c.loop-each-test.true
