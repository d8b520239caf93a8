use Rattle.std.proofs.Common.{◌<◌, ℕ, sym, subst, slice_index_or}
use Rattle.graph_search.proofs.RowLemmas.{held_at}
use Rattle.graph_search.proofs.sweep.mark_row.Goals as goal

pub add-requires : goal.add-requires
add-requires c =
    subst (λ (n : ℕ). slice_index_or c.args.row.now c.loop-node.node-index 0 < n) (sym c.loop-node.invariant.same)
    (c.requires (slice_index_or c.args.row.now c.loop-node.node-index 0)
    (held_at c.args.row.now c.loop-node.node-index c.loop-node-test.true))
