use Rattle.std.proofs.Common.{rules}
use Rattle.copy_facts.proofs.JoinedLemmas.{cells_go_on, cells_joined}
use Rattle.copy_facts.proofs.joining.join_registers.Goals as goal

pub loop-at-preserved : goal.loop-at-preserved
loop-at-preserved c =
    cells_go_on c.args.stack c.args.registers.now c.args.other.now c.loop-at.at c.loop-at.registers c.loop-at.changed c.join-next.result
    c.is_same-same.result
    c.loop-at.invariant c.loop-at-test.true (search rules) (search rules)

pub returns-clause-joined : goal.returns-clause-joined
returns-clause-joined c = cells_joined c.args.stack c.args.registers.now c.args.other.now c.loop-at.at c.loop-at.registers c.loop-at.changed
    c.loop-at.invariant c.loop-at-test.false
