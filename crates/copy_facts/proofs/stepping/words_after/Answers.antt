use Rattle.std.proofs.Common.{rules, inl, inr}
use Rattle.copy_facts.specs.Points.{stepped_entry}
use Rattle.copy_facts.proofs.StepLemmas.{all_entries}
use Rattle.copy_facts.proofs.stepping.words_after.Goals as goal

pub step_old-requires-clause-quiet : goal.step_old-requires-clause-quiet
step_old-requires-clause-quiet c k from below = c.new_words-from.ensures.quiet c.args.stack k c.requires.small (inl below)

pub step_old-requires-2-clause-quiet : goal.step_old-requires-2-clause-quiet
step_old-requires-2-clause-quiet c k from below = c.new_words-from.ensures.quiet c.args.stack k c.requires.small (inr from)

pub returns-clause-entries : goal.returns-clause-entries
returns-clause-entries c =
    all_entries (stepped_entry c.args.stack c.args.site.now c.args.done c.args.facts.now) c.args.facts.now.words.items
    c.step_old-2.new.out.items c.new_words-from.result.1 (search rules)
    c.requires.table.rising c.new_words-from.ensures.below
    (λ k from. c.new_words-from.ensures.quiet c.args.stack k c.requires.small (inr from))
