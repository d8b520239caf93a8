use Rattle.std.proofs.Common.{take}
use Rattle.std.specs.Prelude.{◌==◌}
use Rattle.std.specs.List.{list_any}
use Rattle.graph_reduction.specs.Nodes.{number_in, state_of, Refreshes}
use Rattle.graph_reduction.proofs.nodes.refresh_row.Given as goal

abbrev pub invariant-loop-x : goal.invariant-loop-x
invariant-loop-x g l =
    Refreshes (g.G.FlowGraph.flow l.graph) (state_of (g.G.FlowGraph.flow l.graph) (number_in l.label) (number_in l.owner) l.into)
    (λ q. list_any (λ t. t == q) (take l.x-index l.row)) l.fn.ones l.ones l.fn.twos l.twos
