use Rattle.std.specs.Prelude.{◌==◌}
use Rattle.graph_reduction.specs.Moves.{HasMoved}
use Rattle.graph_reduction.specs.Nodes.{number_in}
use Rattle.graph_reduction.proofs.EndLemmas.{count_below}
use Rattle.graph_reduction.proofs.nodes.move_members.Given as goal

abbrev pub invariant-loop-block : goal.invariant-loop-block
invariant-loop-block g l = HasMoved (g.G.FlowGraph.flow l.graph) l.from l.to l.fn.label.items l.label.items l.moved.items l.fn.into l.into
    l.members

abbrev pub decreases-loop-block : goal.decreases-loop-block
decreases-loop-block g l = count_below (λ w. number_in l.label.items w == l.from) (g.G.FlowGraph.flow l.graph).count
