use Rattle.std.proofs.Common.{slice_index_or}
use Rattle.interval_loops.proofs.NestLemmas.{infos_next}
use Rattle.graph_search.proofs.RowLemmas.{held_at}
use Rattle.interval_loops.proofs.nest.describe_all.Goals as goal

pub add_info-requires-clause-inside : goal.add_info-requires-clause-inside
add_info-requires-clause-inside c = c.requires.inside (slice_index_or c.args.headers.now c.loop-header.header-index 0)
    (held_at c.args.headers.now c.loop-header.header-index c.loop-header-test.true)

pub loop-header-preserved : goal.loop-header-preserved
loop-header-preserved c = infos_next c.args.headers.now c.args.closers.now c.args.around.now c.loop-header.header-index
    c.loop-header-test.true c.loop-header.infos c.add_info.new.infos c.loop-header.invariant c.in_ok-add_info.ensures
