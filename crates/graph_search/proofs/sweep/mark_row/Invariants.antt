use Rattle.std.proofs.Common.{◌≡◌, nat_eq, drop}
use Rattle.graph_search.specs.NodeLists.{added_all}
use Rattle.graph_search.proofs.sweep.mark_row.Given as goal

abbrev pub invariant-loop-node : goal.invariant-loop-node
invariant-loop-node l =
    record {
      whole : added_all nat_eq l.marks.nodes (drop l.node-index l.row) ≡ added_all nat_eq l.fn.marks.nodes l.row;
      same : l.marks.count ≡ l.fn.marks.count;
    }
