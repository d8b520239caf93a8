use Rattle.std.proofs.Common.{◌≡◌, ◌<◌, ◌-◌, ℕ, length, take, true}
use Rattle.std.specs.Prelude.{nat_eq}
use Rattle.graph_search.specs.NodeLists.{holds}
use Rattle.graph_search.specs.Searches.{Searched}
use Rattle.persistence.specs.Collected.{Collected}
use Rattle.persistence.specs.PointRows.{line_at}
use Rattle.persistence.proofs.search.meets_fewer_lines.Given as goal

abbrev pub invariant-loop-at : goal.invariant-loop-at
invariant-loop-at g l =
    record {
      size : l.marks.count ≡ g.L.MarkLinks.count l.links;
      searched : Searched nat_eq (g.L.MarkLinks.step l.links) l.start l.at l.marks.nodes;
      inside : (q : ℕ) → holds nat_eq q l.marks.nodes ≡ true → q < g.L.MarkLinks.count l.links;
      collected : Collected (line_at l.lines) l.line l.sets (take l.at l.marks.nodes) l.found;
      below : length l.found < l.ways;
    }

abbrev pub decreases-loop-at : goal.decreases-loop-at
decreases-loop-at g l = g.L.MarkLinks.count l.links - l.at
