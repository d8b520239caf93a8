use Rattle.std.proofs.Common.{◌≡◌, nat_eq, drop}
use Rattle.std.specs.List.{filter}
use Rattle.graph_search.specs.NodeLists.{added_all}
use Rattle.line_uses.specs.SearchSteps.{other}
use Rattle.line_uses.proofs.searches.mark_others.Given as goal

abbrev pub invariant-loop-point : goal.invariant-loop-point
invariant-loop-point l =
    record {
      whole : added_all nat_eq l.marks.nodes (filter (other l.tables 0 l.line) (drop l.point-index l.points)) ≡ added_all nat_eq
          l.fn.marks.nodes (filter (other l.tables 0 l.line) l.points);
      same : l.marks.count ≡ l.fn.marks.count;
    }
