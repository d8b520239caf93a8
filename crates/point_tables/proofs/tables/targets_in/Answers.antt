use Rattle.point_tables.proofs.ArrangedLemmas.{is_sorted, is_closed}
use Rattle.point_tables.proofs.tables.targets_in.Goals as goal

pub all_targets-requires-clause-sorted : goal.all_targets-requires-clause-sorted
all_targets-requires-clause-sorted c = is_sorted c.args.image.now c.args.entry c.args.contexts.now c.args.points.now c.requires.arranged

pub all_targets-requires-clause-closed : goal.all_targets-requires-clause-closed
all_targets-requires-clause-closed c = is_closed c.args.image.now c.args.entry c.args.contexts.now c.args.points.now c.requires.arranged
