use Rattle.std.proofs.Common.{◌≡◌, nat_eq, drop}
use Rattle.graph_search.specs.NodeLists.{added_all}
use Rattle.line_uses.specs.SearchSteps.{after_line}
use Rattle.line_uses.proofs.searches.mark_first.Given as goal

abbrev pub invariant-loop-point : goal.invariant-loop-point
invariant-loop-point l =
    record {
      whole : added_all nat_eq l.marks.nodes (after_line l.tables l.line (drop l.point-index l.peers)) ≡ added_all nat_eq l.fn.marks.nodes
          (after_line l.tables l.line l.peers);
      same : l.marks.count ≡ l.fn.marks.count;
    }
