use Rattle.std.proofs.Common.{take}
use Rattle.std.specs.Prelude.{◌==◌}
use Rattle.std.specs.List.{list_any}
use Rattle.graph_reduction.specs.Nodes.{number_in, state_of, Refreshes}
use Rattle.graph_reduction.proofs.nodes.refresh_rows.Given as goal

abbrev pub invariant-loop-block : goal.invariant-loop-block
invariant-loop-block g l =
    Refreshes (g.G.FlowGraph.flow l.graph) (state_of (g.G.FlowGraph.flow l.graph) (number_in l.label) (number_in l.owner) l.into)
    (λ q. list_any (λ u. list_any (λ t. t == q) ((g.G.FlowGraph.flow l.graph).next u))
    (take l.block-index l.blocks)) l.fn.ones l.ones l.fn.twos l.twos
