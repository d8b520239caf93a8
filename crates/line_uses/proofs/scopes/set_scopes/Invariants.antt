use Rattle.std.proofs.Common.{◌≡◌, ℕ, List, true, nat_eq, drop, length}
use Rattle.graph_search.specs.NodeLists.{holds}
use Rattle.line_uses.specs.PointMaps.{ArePointMaps}
use Rattle.line_uses.specs.Scopes.{AreSoFar, flag_in}
use Rattle.line_uses.specs.SearchSteps.{AreForward}
use Rattle.line_uses.proofs.scopes.set_scopes.Given as goal

abbrev pub invariant-loop-point : goal.invariant-loop-point
invariant-loop-point l =
    record {
      so_far : ArePointMaps l.tables → (due : List ℕ) → ((q : ℕ) → holds nat_eq q due ≡ true → flag_in l.flags q ≡ true)
          → AreSoFar l.sets l.ways l.tables due l.order l.fn.scopes.items
          → AreSoFar l.sets l.ways l.tables due (drop l.point-index l.order) l.scopes.items;
      back : l.marks.count ≡ length l.tables.home;
      forward : AreForward l.tables l.forward;
      size : length l.scopes.items ≡ length l.tables.home;
    }
