use Rattle.std.proofs.Common.{true, false}
use Rattle.node_elimination.proofs.CellChangeLemmas.{linked}
use Rattle.node_elimination.proofs.table.link.Goals as goal

pub returns-in_ok-insert-2-clause-links : goal.returns-in_ok-insert-2-clause-links
returns-in_ok-insert-2-clause-links c v s u =
    linked c.args.from c.args.to c.args.on true c.if-on.true c.args.links.now c.insert.new.self c.insert-then-on.new.self
    c.in_ok-insert.ensures.updates.0 c.in_ok-insert-2.ensures.updates.0 v s u

pub returns-else-on-clause-links : goal.returns-else-on-clause-links
returns-else-on-clause-links c v s u =
    linked c.args.from c.args.to c.args.on false c.if-on.false c.args.links.now c.remove.new.self c.remove-else-on.new.self
    c.remove.ensures.updates.0 c.remove-else-on.ensures.updates.0 v s u
