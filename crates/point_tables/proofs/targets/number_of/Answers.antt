use Rattle.point_tables.proofs.PlacementLemmas.{searched_at, searched_none}
use Rattle.point_tables.proofs.targets.number_of.Goals as goal

pub returns-in-Ok : goal.returns-in-Ok
returns-in-Ok c = searched_at c.args.points.now (c.args.context, c.args.address) c.in-Ok.at c.in-Ok.ensures.bound c.in-Ok.ensures.ok

pub returns-in-Err : goal.returns-in-Err
returns-in-Err c = searched_none c.args.points.now (c.args.context, c.args.address) c.in-Err.field-0 c.requires.sorted
    c.in-Err.ensures.position
