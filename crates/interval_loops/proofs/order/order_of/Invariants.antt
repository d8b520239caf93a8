use Rattle.std.proofs.Common.{◌-◌}
use Rattle.std.specs.Prelude.{nat_lt}
use Rattle.graph_reduction.specs.Nodes.{number_in}
use Rattle.interval_loops.specs.BlockOrders.{IsListing}
use Rattle.interval_loops.proofs.order.order_of.Given as goal

abbrev pub invariant-loop-at : goal.invariant-loop-at
invariant-loop-at g l = IsListing (λ t. nat_lt t (g.G.FlowGraph.flow l.graph).count) (g.G.FlowGraph.flow l.graph)
    (number_in l.label) l.fn.into l.into l.at l.at l.order.items

abbrev pub decreases-loop-at : goal.decreases-loop-at
decreases-loop-at g l = (g.G.FlowGraph.flow l.graph).count - l.at
