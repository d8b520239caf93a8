use Rattle.std.proofs.Common.{refl, get_or}
use Rattle.control_flow.specs.Instructions.{instruction_at}
use Rattle.flow_graph.specs.declared.graph.GraphPoint.{GraphPoint}
use Rattle.point_tables.proofs.LinkLemmas.{in_row}
use Rattle.point_tables.proofs.FaultLemmas.{pair_in}
use Rattle.flow_graph.proofs.PartLemmas.{known_more, points_more}
use Rattle.flow_graph.proofs.parts.graph_points.Goals as goal

pub bounds-points-number : goal.bounds-points-number
bounds-points-number c =
    c.requires.under (get_or c.args.numbers.now c.loop-number.number-index 0)
    (in_row c.args.numbers.now c.loop-number.number-index c.loop-number-test.true)

pub add_point-requires : goal.add_point-requires
add_point-requires c =
    let i = get_or c.args.numbers.now c.loop-number.number-index 0 in
    let l = c.requires.under i (in_row c.args.numbers.now c.loop-number.number-index c.loop-number-test.true) in
    c.requires.clear (get_or c.args.points.now i (0, 0)) (pair_in c.args.points.now i (0, 0) l)

pub loop-number-preserved : goal.loop-number-preserved
loop-number-preserved c =
    let i = get_or c.args.numbers.now c.loop-number.number-index 0 in
    let pair = get_or c.args.points.now i (0, 0) in
    let added = c.in_ok-add_point.ensures in
    let p : GraphPoint = record { context = pair.0; address = pair.1; insn = added.0 } in
    record {
      points =
          points_more c.args.points.now c.args.numbers.now c.loop-number.number-index c.loop-number.out c.add_point.new.out p
          c.loop-number-test.true
          c.loop-number.invariant.points added.2 refl;
      known = known_more (instruction_at c.args.image.now) c.loop-number.out c.add_point.new.out p added.1 added.2
          c.loop-number.invariant.known;
    }
