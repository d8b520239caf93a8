use Rattle.std.proofs.Common.{◌≡◌, ◌<◌, ◌-◌, ℕ, true, nat_eq}
use Rattle.graph_search.specs.NodeLists.{holds}
use Rattle.graph_search.specs.Searches.{Searched}
use Rattle.graph_search.proofs.sweep.mark_reached.Given as goal

abbrev pub invariant-loop-at : goal.invariant-loop-at
invariant-loop-at g l =
    record {
      size : l.marks.count ≡ g.L.MarkLinks.count l.links;
      searched : Searched nat_eq (g.L.MarkLinks.step l.links) l.start l.at l.marks.nodes;
      inside : (q : ℕ) → holds nat_eq q l.marks.nodes ≡ true → q < g.L.MarkLinks.count l.links;
    }

abbrev pub decreases-loop-at : goal.decreases-loop-at
decreases-loop-at g l = g.L.MarkLinks.count l.links - l.at
