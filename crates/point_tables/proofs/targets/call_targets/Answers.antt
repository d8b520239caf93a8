use Rattle.std.proofs.Common.{get_or, [], ◌++◌, ◌∷◌}
use Rattle.control_flow.specs.Controls.{skipped_way}
use Rattle.point_tables.proofs.PlacementLemmas.{two_targets_are, call_known, some_child}
use Rattle.point_tables.proofs.targets.call_targets.Goals as goal

pub returns-in-Some : goal.returns-in-Some
returns-in-Some c =
    let child = some_child c.args.contexts.now c.args.points.now c.requires.sorted c.in-Some.child
    (get_or c.args.contexts.now c.args.context [] ++ c.args.after ∷ []) c.in-Some.ensures.some in
    two_targets_are c.args.contexts.now c.args.points.now c.requires.sorted c.args.context c.in-Some.child c.args.target
    (get_or c.args.contexts.now c.args.context [] ++ c.args.after ∷ []) c.args.skipped c.number_of.result c.skipped_number.result
    c.requires.known child.0 child.1 c.requires.closed c.number_of.ensures c.skipped_number.ensures

pub returns-in-None : goal.returns-in-None
returns-in-None c =
    absurd (call_known c.args.contexts.now c.args.points.now c.requires.sorted
    (get_or c.args.contexts.now c.args.context [] ++ c.args.after ∷ []) c.args.target
    (skipped_way (get_or c.args.contexts.now c.args.context []) c.args.skipped) c.requires.closed
    c.in-None.ensures.none)
