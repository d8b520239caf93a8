use Rattle.std.proofs.Common.{refl, get_or, []}
use Rattle.point_tables.proofs.PlacementLemmas.{two_targets_are}
use Rattle.point_tables.proofs.targets.go_targets.Goals as goal

pub returns : goal.returns
returns c =
    two_targets_are c.args.contexts.now c.args.points.now c.requires.sorted c.args.context c.args.context c.args.target
    (get_or c.args.contexts.now c.args.context []) c.args.skipped c.number_of.result c.skipped_number.result
    c.requires.known c.requires.known refl c.requires.closed c.number_of.ensures c.skipped_number.ensures
