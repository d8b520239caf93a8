use Rattle.std.proofs.Common.{◌≡◌, ◌<◌, ℕ, ◌++◌, ◌∷◌, [], length, take, true, nat_eq, if◌then◌else◌}
use Rattle.graph_search.specs.NodeLists.{holds}
use Rattle.graph_search.specs.Rows.{row_in}
use Rattle.interval_loops.proofs.bodies.add_loop.Given as goal

abbrev pub invariant-loop-at : goal.invariant-loop-at
invariant-loop-at l =
    record {
      size : length l.around.items ≡ length l.fn.around.items;
      rows : (q : ℕ) → row_in l.around.items q ≡ (if holds nat_eq q (take l.at l.marks.nodes) then row_in l.fn.around.items q
          ++ l.number ∷ [] else row_in l.fn.around.items q);
      few : (q : ℕ) → holds nat_eq q (take l.at l.marks.nodes) ≡ true → length (row_in l.fn.around.items q) < 16;
    }
