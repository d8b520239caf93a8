use Rattle.std.proofs.Common.{rules, get_or}
use Rattle.graph_search.proofs.RowLemmas.{any_at}
use Rattle.graph_search.proofs.flow_graph.is_row_below.Goals as goal

pub returns-then-target-count-clause-above : goal.returns-then-target-count-clause-above
returns-then-target-count-clause-above c none = (
  get_or c.args.row.now c.loop-target.target-index 0,
  any_at c.args.row.now c.loop-target.target-index
      c.loop-target-test.true,
  search rules,
)
