use Rattle.tree_cases.proofs.GraphLemmas.{leaf_added, size_more}
use Rattle.tree_cases.proofs.graphs.leaves.Goals as goal

pub loop-block-preserved : goal.loop-block-preserved
loop-block-preserved c =
    let i = c.loop-block.invariant in
    record {
      size = size_more c.loop-block.uses.items c.push.new.self.items _ c.loop-block._block c.in_ok-push.ensures.items i.size;
      none = leaf_added c.loop-block.uses.items c.push.new.self.items _ c.in_ok-push.ensures.items c.new.ensures i.none;
    }
