use Rattle.std.proofs.Common.{slice_index_or}
use Rattle.graph_search.proofs.RowLemmas.{held_at}
use Rattle.level_tables.proofs.edges.edges_of_level.Goals as goal

pub add_block-requires : goal.add_block-requires
add_block-requires g c = c.requires (slice_index_or c.args.blocks.now c.loop-block.block-index 0)
    (held_at c.args.blocks.now c.loop-block.block-index c.loop-block-test.true)
