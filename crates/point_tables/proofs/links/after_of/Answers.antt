use Rattle.basic_blocks.specs.Chains.{is_flagged}
use Rattle.point_tables.proofs.LinkLemmas.{some_after, no_after}
use Rattle.point_tables.proofs.links.after_of.Goals as goal

pub returns-then-number-table : goal.returns-then-number-table
returns-then-number-table c = some_after _ (is_flagged c.args.flags.now) c.args.table.now c.args.number c.next_of.result
    c.if-number-table.true c.next_of.ensures

pub returns-else-number-table : goal.returns-else-number-table
returns-else-number-table c = no_after (is_flagged c.args.flags.now) c.args.table.now c.args.number c.if-number-table.false
