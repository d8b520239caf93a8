use Rattle.std.proofs.Common.{rules}
use Rattle.function_points.proofs.PointLemmas.{held_added, points_with, many_points}
use Rattle.function_points.proofs.found_points.visit.Goals as goal

pub returns-then-len-most-clause-many : goal.returns-then-len-most-clause-many
returns-then-len-most-clause-many c h =
    many_points c.args.contexts.now c.args.found.now c.add.new.self
    (c.args.context, c.args.address) c.args.most c.requires.held c.requires.known (search rules) (search rules)

pub returns-clause-held : goal.returns-clause-held
returns-clause-held c = held_added c.args.contexts.now c.args.found.now c.add.new.self
    (c.args.context, c.args.address) c.requires.held c.requires.known (search rules)

pub returns-clause-ok : goal.returns-clause-ok
returns-clause-ok c = points_with c.args.contexts.now c.args.found.now c.add.new.self
    (c.args.context, c.args.address) c.requires.held c.requires.known (search rules)
