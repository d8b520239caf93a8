use Rattle.std.proofs.Common.{◌≡◌, ℕ, length, nat_eq}
use Rattle.std.specs.Prelude.{◌&&◌, ◌==◌, nat_lt}
use Rattle.std.specs.List.{list_any}
use Rattle.graph_search.specs.NodeLists.{holds}
use Rattle.graph_search.specs.Rows.{row_in}
use Rattle.graph_search.proofs.rows.sources.Given as goal

abbrev pub invariant-loop-node : goal.invariant-loop-node
invariant-loop-node g l =
    record {
      size : length l.rows.items ≡ (g.G.FlowGraph.flow l.graph).count;
      exact : (q u : ℕ) → holds nat_eq u (row_in l.rows.items q) ≡
          (nat_lt u l.node && list_any (λ x. x == q) ((g.G.FlowGraph.flow l.graph).next u));
    }
