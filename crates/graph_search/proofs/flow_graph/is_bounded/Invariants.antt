use Rattle.std.proofs.Common.{◌≡◌, ℕ, true, ◌<◌}
use Rattle.std.specs.Prelude.{◌==◌}
use Rattle.std.specs.List.{list_any}
use Rattle.graph_search.proofs.flow_graph.is_bounded.Given as goal

abbrev pub invariant-loop-node : goal.invariant-loop-node
invariant-loop-node g l = (u h : ℕ) → u < l.node → list_any (λ y. y == h) ((g.G.FlowGraph.flow l.graph).next u) ≡ true
    → h < l.count
