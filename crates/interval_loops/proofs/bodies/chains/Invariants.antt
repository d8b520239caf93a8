use Rattle.std.proofs.Common.{◌≡◌}
use Rattle.interval_loops.specs.Tables.{closed_of, AreSoFar}
use Rattle.interval_loops.proofs.bodies.chains.Given as goal

abbrev pub invariant-loop-at : goal.invariant-loop-at
invariant-loop-at g l =
    record {
      marks : l.marks.count ≡ (g.G.FlowGraph.flow l.graph).count;
      so_far : AreSoFar (g.G.FlowGraph.flow l.graph) (closed_of l.closers) l.order l.headers l.at l.around.items;
    }
