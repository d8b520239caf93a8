use Rattle.std.proofs.Common.{ℕ, ◌<◌}
use Rattle.std.specs.Prelude.{nat_lt}
use Rattle.graph_search.specs.Flows.{IsBounded}
use Rattle.graph_reduction.specs.Nodes.{AreHeld}
use Rattle.interval_loops.specs.BlockOrders.{IsListing}
use Rattle.interval_loops.proofs.order.free_blocks.Given as goal

abbrev pub invariant-loop-block : goal.invariant-loop-block
invariant-loop-block g l =
    (label : ℕ → ℕ) → IsBounded (g.G.FlowGraph.flow l.graph) → AreHeld (g.G.FlowGraph.flow l.graph) label l.into →
    ((u : ℕ) → u < (g.G.FlowGraph.flow l.graph).count → label u < (g.G.FlowGraph.flow l.graph).count)
    → IsListing (λ t. nat_lt t l.block) (g.G.FlowGraph.flow l.graph) label l.into l.into 0 0 l.order.items
