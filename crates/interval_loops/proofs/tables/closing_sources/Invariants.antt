use Rattle.std.proofs.Common.{◌≡◌, ◌<◌, ℕ, length, nat_eq, true}
use Rattle.std.specs.Prelude.{◌||◌}
use Rattle.graph_search.specs.NodeLists.{holds}
use Rattle.graph_reduction.specs.Sets.{in_set}
use Rattle.graph_search.specs.Orders.{Rising}
use Rattle.graph_search.specs.Rows.{row_in}
use Rattle.interval_loops.proofs.tables.closing_sources.Given as goal

abbrev pub invariant-loop-edge : goal.invariant-loop-edge
invariant-loop-edge l =
    record {
      size : length l.rows.items ≡ l.count;
      less : (h u z : ℕ) → in_set l.closings h u z ≡ true → in_set l.fn.closings h u z ≡ true;
      exact : (h u : ℕ) → in_set l.fn.closings h u 0 ≡ (holds nat_eq u (row_in l.rows.items h) || in_set l.closings h u 0);
      order : (h u v : ℕ) → holds nat_eq u (row_in l.rows.items h) ≡ true → in_set l.closings h v 0 ≡ true → u < v;
      rising : (h : ℕ) → Rising (λ u. u) (row_in l.rows.items h);
    }

abbrev pub decreases-loop-edge : goal.decreases-loop-edge
decreases-loop-edge l = length l.closings.keys
