use Rattle.level_tables.proofs.LoopNumberLemmas.{next_block}
use Rattle.level_tables.proofs.rows.all_blocks.Goals as goal

pub loop-block-preserved : goal.loop-block-preserved
loop-block-preserved c u =
    next_block u c.loop-block.block c.loop-block.blocks c.push.new.self c.in_ok-push.ensures.ok (c.loop-block.invariant u)
