use Rattle.std.proofs.Common.{rules, get_or}
use Rattle.copy_facts.specs.Tables.{nothing_of}
use Rattle.copy_facts.proofs.JoinedLemmas.{drop_all, drop_next, joined_entries, joined_rises, joined_same, joining_goes_on}
use Rattle.copy_facts.proofs.joining.join_words.Goals as goal

pub loop-entry-preserved : goal.loop-entry-preserved
loop-entry-preserved c =
    joining_goes_on c.args.stack c.args.left.now c.args.right.now c.loop-entry.entry-index c.loop-entry.out.items c.loop-entry.changed
    (get_or c.args.left.now c.loop-entry.entry-index
    (nothing_of 0)) c.join_entry-next.result c.is_same_entry-same.result c.put.new.words.items c.loop-entry.invariant
    (drop_next c.args.left.now c.loop-entry.entry-index (nothing_of 0) c.loop-entry-test.true)
    (search rules) c.is_same_entry-same.ensures.same c.is_same_entry-same.ensures.differs (search rules)

pub returns-clause-rising : goal.returns-clause-rising
returns-clause-rising c =
    joined_rises c.args.stack c.args.left.now c.args.right.now c.loop-entry.entry-index c.loop-entry.out.items c.loop-entry.changed
    c.loop-entry.invariant (drop_all c.args.left.now c.loop-entry.entry-index c.loop-entry-test.false)

pub returns-clause-joined : goal.returns-clause-joined
returns-clause-joined c =
    joined_entries c.args.stack c.args.left.now c.args.right.now c.loop-entry.entry-index c.loop-entry.out.items c.loop-entry.changed
    c.loop-entry.invariant (drop_all c.args.left.now c.loop-entry.entry-index c.loop-entry-test.false)

pub returns-clause-same : goal.returns-clause-same
returns-clause-same c =
    joined_same c.args.stack c.args.left.now c.args.right.now c.loop-entry.entry-index c.loop-entry.out.items c.loop-entry.changed
    c.loop-entry.invariant (drop_all c.args.left.now c.loop-entry.entry-index c.loop-entry-test.false)
