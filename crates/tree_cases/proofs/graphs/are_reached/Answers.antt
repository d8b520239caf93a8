use Rattle.std.proofs.Common.{refl}
use Rattle.tree_cases.proofs.GraphLemmas.{all_reached}
use Rattle.tree_cases.proofs.graphs.are_reached.Goals as goal

pub returns-in-Ok : goal.returns-in-Ok
returns-in-Ok c t =
    all_reached c.args.rows.now c.args.entry c.in-Ok.found c.in-Ok.ensures.found _ refl (c.has_all.ensures t)
