use Rattle.std.proofs.Common.{rules, subst, take, get_or, List, ℕ, ◌+◌}
use Rattle.std.proofs.lemmas.List.{take_all}
use Rattle.control_flow.specs.Ways.{ways_from}
use Rattle.function_points.specs.PointLists.{point_at, points_at}
use Rattle.point_tables.specs.Targets.{AllHaveTargets, HasTargets}
use Rattle.point_tables.proofs.PointwiseLemmas.{none_pointwise, one_pointwise}
use Rattle.point_tables.proofs.FaultLemmas.{points_next, pair_in}
use Rattle.point_tables.proofs.targets.all_targets.Goals as goal

pub targets_of_point-targets-requires-clause-known : goal.targets_of_point-targets-requires-clause-known
targets_of_point-targets-requires-clause-known c = c.requires.sorted.under (get_or c.args.points.now c.loop-point.point-index (0, 0))
    (pair_in c.args.points.now c.loop-point.point-index (0, 0) c.loop-point-test.true)

pub targets_of_point-targets-requires-clause-closed : goal.targets_of_point-targets-requires-clause-closed
targets_of_point-targets-requires-clause-closed c = c.requires.closed (get_or c.args.points.now c.loop-point.point-index (0, 0))
    (pair_in c.args.points.now c.loop-point.point-index (0, 0) c.loop-point-test.true)

pub loop-point-init : goal.loop-point-init
loop-point-init c = none_pointwise _ _ (search rules)

pub loop-point-preserved : goal.loop-point-preserved
loop-point-preserved c =
    one_pointwise (λ q a. HasTargets (points_at c.args.contexts.now c.args.points.now) (ways_from c.args.image.now c.args.entry q) a)
    (points_at c.args.contexts.now (take c.loop-point.point-index c.args.points.now))
    (points_at c.args.contexts.now (take (c.loop-point.point-index + 1) c.args.points.now))
    (point_at c.args.contexts.now (get_or c.args.points.now c.loop-point.point-index (0, 0))) c.loop-point.table c.push.new.self
    c.targets_of_point-targets.result c.loop-point.invariant c.targets_of_point-targets.ensures
    (points_next c.args.contexts.now c.args.points.now c.loop-point.point-index (0, 0) c.loop-point-test.true) c.in_ok-push.ensures.ok

pub returns : goal.returns
returns c =
    subst (λ (zs : List (ℕ × ℕ)). AllHaveTargets (ways_from c.args.image.now c.args.entry)
    (points_at c.args.contexts.now c.args.points.now) (points_at c.args.contexts.now zs) c.loop-point.table)
    (take_all c.loop-point.point-index c.args.points.now c.loop-point-test.false) c.loop-point.invariant
