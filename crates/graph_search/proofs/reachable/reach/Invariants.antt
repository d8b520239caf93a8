use Rattle.std.proofs.Common.{◌≤◌, ◌-◌, length}
use Rattle.std.specs.Prelude.{nat_eq}
use Rattle.graph_search.specs.Searches.{Searched}
use Rattle.graph_search.proofs.reachable.reach.Given as goal

abbrev pub invariant-loop-at : goal.invariant-loop-at
invariant-loop-at g l =
    record {
      searched : Searched nat_eq (g.L.Links.step l.links) l.start l.at l.nodes;
      few : length l.nodes ≤ l.most;
    }

abbrev pub decreases-loop-at : goal.decreases-loop-at
decreases-loop-at g l = l.most - l.at
