use Rattle.std.proofs.Common.{◌∙◌}
use Rattle.copy_facts.proofs.EntryLemmas.{found_here, got, got_none, missing_all, missing_here}
use Rattle.copy_facts.proofs.lookup.find.Goals as goal

pub returns-then-entry-word : goal.returns-then-entry-word
returns-then-entry-word c =
    found_here c.args.words.now c.place_of.result c.args.word c.in-Some.entry.now c.place_of.ensures.before
    (got c.args.words.now c.place_of.result c.in-Some.entry.now c.in-Some.ensures.lookup.3.0 c.in-Some.ensures.lookup.1)
    c.if-entry-word.true

pub returns-else-entry-word : goal.returns-else-entry-word
returns-else-entry-word c =
    c.nothing_of.ensures
    ∙ missing_here _ c.args.words.now c.place_of.result c.args.word c.in-Some.entry.now c.requires c.place_of.ensures.before
    c.place_of.ensures.after
    (got c.args.words.now c.place_of.result c.in-Some.entry.now c.in-Some.ensures.lookup.3.0 c.in-Some.ensures.lookup.1)
    c.if-entry-word.false

pub returns-in-None : goal.returns-in-None
returns-in-None c = c.nothing_of-in-None.ensures ∙ missing_all c.args.words.now c.place_of.result c.args.word c.place_of.ensures.before
    (got_none c.args.words.now c.place_of.result c.in-None.ensures.lookup.3)
