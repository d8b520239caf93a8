use Rattle.std.proofs.Common.{rules, ap, ◌∙◌}
use Rattle.point_steps.specs.Changes.{is_touched}
use Rattle.copy_facts.proofs.StepLemmas.{nowhere_less, outside, quiet_here}
use Rattle.copy_facts.proofs.stepping.new_words.Goals as goal

pub returns-in-Nothing-clause-quiet : goal.returns-in-Nothing-clause-quiet
returns-in-Nothing-clause-quiet c stack k small away none =
    quiet_here stack c.args.site.now c.args.done c.args.facts.now k c.offset_of.result c.stack_change.result
    (search rules) c.offset_of.ensures small c.stack_change.ensures.sources
    c.stack_change.ensures.marks (ap (λ x. is_touched x k) c.in-Nothing.is) none

pub returns-then-first-last-clause-quiet : goal.returns-then-first-last-clause-quiet
returns-then-first-last-clause-quiet c stack k small away none =
    quiet_here stack c.args.site.now c.args.done c.args.facts.now k c.offset_of.result c.stack_change.result
    (search rules) c.offset_of.ensures small c.stack_change.ensures.sources
    c.stack_change.ensures.marks (ap (λ x. is_touched x k) c.in-Words.is ∙ outside c.in-Words.first c.in-Words.last k away) none

pub returns-else-first-last-clause-quiet : goal.returns-else-first-last-clause-quiet
returns-else-first-last-clause-quiet c stack k small away none =
    quiet_here stack c.args.site.now c.args.done c.args.facts.now k c.offset_of.result c.stack_change.result
    (search rules) c.offset_of.ensures small c.stack_change.ensures.sources
    c.stack_change.ensures.marks
    (ap (λ x. is_touched x k) c.in-Words.is ∙ nowhere_less c.in-Words.first c.in-Words.last k c.if-first-last.false) none

pub returns-in-Any-clause-quiet : goal.returns-in-Any-clause-quiet
returns-in-Any-clause-quiet c stack k small away none =
    quiet_here stack c.args.site.now c.args.done c.args.facts.now k c.offset_of.result c.stack_change.result
    (search rules) c.offset_of.ensures small c.stack_change.ensures.sources
    c.stack_change.ensures.marks (ap (λ x. is_touched x k) c.in-Any.is) none

pub returns-in-Unmarked-clause-quiet : goal.returns-in-Unmarked-clause-quiet
returns-in-Unmarked-clause-quiet c stack k small away none =
    quiet_here stack c.args.site.now c.args.done c.args.facts.now k c.offset_of.result c.stack_change.result
    (search rules) c.offset_of.ensures small c.stack_change.ensures.sources
    c.stack_change.ensures.marks (ap (λ x. is_touched x k) c.in-Unmarked.is) none
