use Rattle.std.proofs.Common.{◌≡◌, nat_eq, drop}
use Rattle.std.specs.List.{filter}
use Rattle.graph_search.specs.NodeLists.{added_all}
use Rattle.line_uses.specs.SearchSteps.{picks}
use Rattle.line_uses.proofs.searches.mark_back.Given as goal

abbrev pub invariant-loop-point : goal.invariant-loop-point
invariant-loop-point l =
    record {
      whole : added_all nat_eq l.marks.nodes (filter (picks l.tables l.number l.line l.forward.nodes) (drop l.point-index l.points)) ≡
          added_all nat_eq l.fn.marks.nodes (filter (picks l.tables l.number l.line l.forward.nodes) l.points);
      same : l.marks.count ≡ l.fn.marks.count;
    }
