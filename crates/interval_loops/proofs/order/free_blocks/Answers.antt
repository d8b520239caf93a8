use Rattle.interval_loops.proofs.BlockOrderLemmas.{one_more_free}
use Rattle.interval_loops.proofs.order.free_blocks.Goals as goal

pub loop-block-preserved : goal.loop-block-preserved
loop-block-preserved g c label b h s =
    one_more_free (g.G.FlowGraph.flow c.args.graph.now) label c.args.into.now b h s c.loop-block.block c.loop-block.order.items
    c.list_free.new.order.items (c.loop-block.invariant label b h s) c.in_ok-list_free.ensures
