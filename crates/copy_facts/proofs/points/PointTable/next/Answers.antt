use Rattle.copy_facts.specs.Tables.{state_of_point}
use Rattle.copy_facts.proofs.MergeLemmas.{known_below, next_is, table_known, there_below}
use Rattle.copy_facts.proofs.points.PointTable.next.Goals as goal

pub step_point-requires-clause-table : goal.step_point-requires-clause-table
step_point-requires-clause-table c =
    c.requires.sound.tables c.args.point c.in-Some-index.facts
    (table_known c.args.self.now.facts.items c.args.point c.index.result.now c.in-Some-index.facts
    (known_below c.args.self.now.facts.items c.args.point c.requires.known)
    c.index.ensures c.in-Some-index.is)

pub returns-in_ok-table-in-Some-index-clause-stepped : goal.returns-in_ok-table-in-Some-index-clause-stepped
returns-in_ok-table-in-Some-index-clause-stepped c =
    next_is c.args.self.now.stack c.args.self.now.sites.now c.args.self.now.facts.items c.args.point c.args.done c.in-Some.site.now
    c.in-Some-index.facts
    (state_of_point c.in_ok-table-in-Some-index.table)
    (table_known c.args.self.now.facts.items c.args.point c.index.result.now c.in-Some-index.facts
    (known_below c.args.self.now.facts.items c.args.point c.requires.known)
    c.index.ensures c.in-Some-index.is)
    (there_below c.args.self.now.sites.now c.args.point c.requires.there) c.in-Some.ensures.lookup.1
    c.in_ok-table-in-Some-index.ensures.stepped
