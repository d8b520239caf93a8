use Rattle.std.proofs.Common.{refl, sym, subst, take, get_or, List, ℕ}
use Rattle.std.proofs.lemmas.List.{take_all}
use Rattle.control_flow.specs.Points.{Point}
use Rattle.control_flow.specs.Ways.{fault_at}
use Rattle.function_points.specs.PointLists.{point_at, points_at}
use Rattle.point_tables.specs.Faults.{IsLeastOf}
use Rattle.point_tables.proofs.FaultLemmas.{points_next, pair_in}
use Rattle.point_tables.proofs.faults.first_fault.Goals as goal

pub fault_of_point-fault-requires : goal.fault_of_point-fault-requires
fault_of_point-fault-requires c = c.requires (get_or c.args.points.now c.loop-point.point-index (0, 0))
    (pair_in c.args.points.now c.loop-point.point-index (0, 0) c.loop-point-test.true)

pub loop-point-preserved : goal.loop-point-preserved
loop-point-preserved c =
    subst (λ (zs : List Point). IsLeastOf (fault_at c.args.image.now c.args.entry) zs c.with_fault-found.result)
    (sym (points_next c.args.contexts.now c.args.points.now c.loop-point.point-index (0, 0) c.loop-point-test.true))
    (c.with_fault-found.ensures (fault_at c.args.image.now c.args.entry)
    (points_at c.args.contexts.now (take c.loop-point.point-index c.args.points.now))
    (point_at c.args.contexts.now (get_or c.args.points.now c.loop-point.point-index (0, 0)))
    (sym c.fault_of_point-fault.ensures) refl c.loop-point.invariant)

pub returns : goal.returns
returns c =
    subst (λ (zs : List (ℕ × ℕ)). IsLeastOf (fault_at c.args.image.now c.args.entry) (points_at c.args.contexts.now zs) c.loop-point.found)
    (take_all c.loop-point.point-index c.args.points.now c.loop-point-test.false) c.loop-point.invariant
