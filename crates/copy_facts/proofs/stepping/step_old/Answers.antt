use Rattle.std.proofs.Common.{rules}
use Rattle.copy_facts.specs.Points.{stepped_entry}
use Rattle.copy_facts.proofs.JoinedLemmas.{drop_all, drop_got}
use Rattle.copy_facts.proofs.StepLemmas.{old_above, old_below, old_ends, old_written}
use Rattle.copy_facts.proofs.stepping.step_old.Goals as goal

pub loop-at-preserved-then-word-from : goal.loop-at-preserved-then-word-from
loop-at-preserved-then-word-from c =
    old_below (stepped_entry c.args.stack c.args.site.now c.args.done c.args.facts.now) c.args.facts.now.words.items c.args.from c.args.to
    c.loop-at.at c.loop-at.out.items
    c.loop-at.invariant c.index.result.now
    (drop_got c.args.facts.now.words.items c.loop-at.at c.index.result.now (search rules) c.index.ensures)
    (search rules)

pub loop-at-preserved-then-to-word : goal.loop-at-preserved-then-to-word
loop-at-preserved-then-to-word c =
    old_above (stepped_entry c.args.stack c.args.site.now c.args.done c.args.facts.now) c.args.facts.now.words.items c.args.from c.args.to
    c.loop-at.at c.loop-at.out.items
    c.loop-at.invariant c.index.result.now
    (drop_got c.args.facts.now.words.items c.loop-at.at c.index.result.now (search rules) c.index.ensures)
    (search rules)

pub loop-at-preserved : goal.loop-at-preserved
loop-at-preserved c =
    old_written (stepped_entry c.args.stack c.args.site.now c.args.done c.args.facts.now) c.args.facts.now.words.items c.args.from c.args.to
    c.loop-at.at c.loop-at.out.items
    c.loop-at.invariant c.index.result.now
    (drop_got c.args.facts.now.words.items c.loop-at.at c.index.result.now (search rules) c.index.ensures)
    c.requires.quiet (search rules) (search rules) c.word_after.result (search rules) (search rules) c.put.new.words.items (search rules)

pub returns : goal.returns
returns c =
    old_ends (stepped_entry c.args.stack c.args.site.now c.args.done c.args.facts.now) c.args.facts.now.words.items c.args.from c.args.to
    c.loop-at.at c.loop-at.out.items c.loop-at.invariant
    (drop_all c.args.facts.now.words.items c.loop-at.at (search rules)) c.requires.quiet
