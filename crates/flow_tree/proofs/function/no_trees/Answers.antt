use Rattle.flow_tree.proofs.WholeTreeLemmas.{empty_made, none_made}
use Rattle.flow_tree.proofs.function.no_trees.Goals as goal

pub loop-loop-init : goal.loop-loop-init
loop-loop-init c =
    none_made c.args.tables.now c.new-made.result.items c.push.new.self.items c.in_ok-push.ensures.items
    (empty_made c.args.tables.now c.new-made.result.items c.new-made.ensures.items)

pub loop-loop-preserved : goal.loop-loop-preserved
loop-loop-preserved c =
    none_made c.args.tables.now c.loop-loop.made.items c.push-in-loop-loop.new.self.items c.in_ok-push-2.ensures.items c.loop-loop.invariant
