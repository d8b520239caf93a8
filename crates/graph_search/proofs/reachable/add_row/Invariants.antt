use Rattle.std.proofs.Common.{◌≡◌, ◌≤◌, drop, length}
use Rattle.std.specs.Prelude.{nat_eq}
use Rattle.graph_search.specs.NodeLists.{added_all}
use Rattle.graph_search.proofs.reachable.add_row.Given as goal

abbrev pub invariant-loop-node : goal.invariant-loop-node
invariant-loop-node l =
    record {
      same : added_all nat_eq l.nodes (drop l.node-index l.row) ≡ added_all nat_eq l.fn.nodes l.row;
      few : length l.nodes ≤ l.most;
    }
