use Rattle.std.proofs.Common.{◌≡◌, take, map}
use Rattle.std.specs.Prelude.{Contains, Some}
use Rattle.control_flow.specs.Instructions.{instruction_at}
use Rattle.flow_graph.specs.declared.graph.GraphPoint.{GraphPoint}
use Rattle.flow_graph.specs.Parts.{pair_at, point_pair}
use Rattle.flow_graph.proofs.parts.graph_points.Given as goal

abbrev pub invariant-loop-number : goal.invariant-loop-number
invariant-loop-number l =
    record {
      points : map point_pair l.out ≡ map (pair_at l.points) (take l.number-index l.numbers);
      known : (p : GraphPoint) → Contains l.out p → instruction_at l.image p.address ≡ Some p.insn;
    }
