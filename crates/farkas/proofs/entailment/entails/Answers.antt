use Rattle.std.proofs.Common.{rules, ◌≡◌}
use Rattle.farkas.specs.Deciding.{answer_of_run}
use Rattle.farkas.proofs.Having.{decides, by_had, by_run, not_had, had_is_proved}
use Rattle.farkas.proofs.entailment.entails.Goals as goal

pub returns-in-Some-clause-evidence : goal.returns-in-Some-clause-evidence
returns-in-Some-clause-evidence c =
    by_had c.args.rows.now c.args.row.now c.in-Some.answer c.in_ok-answer.field-0 c.had.ensures.collected c.in_ok-answer.ensures.answer c.in-Some.is

pub returns-in-Some-clause-decides : goal.returns-in-Some-clause-decides
returns-in-Some-clause-decides c =
    decides c.args.rows.now c.args.row.now c.in-Some.answer
    (by_had c.args.rows.now c.args.row.now c.in-Some.answer c.in_ok-answer.field-0 c.had.ensures.collected c.in_ok-answer.ensures.answer c.in-Some.is)

pub returns-in-Some-clause-had : goal.returns-in-Some-clause-had
returns-in-Some-clause-had c h = had_is_proved c.args.rows.now c.args.row.now c.in-Some.answer c.in_ok-answer.field-0 c.in_ok-answer.ensures.answer c.in-Some.is

pub returns-in-Some-2-clause-evidence : goal.returns-in-Some-2-clause-evidence
returns-in-Some-2-clause-evidence c =
    let run : c.in-Some-2.answer ≡ answer_of_run c.args.rows.now c.args.row.now = search rules in
    by_run c.args.rows.now c.args.row.now c.in-Some-2.answer c.had.ensures.collected c.in_ok-answer-2.ensures.collected run

pub returns-in-Some-2-clause-decides : goal.returns-in-Some-2-clause-decides
returns-in-Some-2-clause-decides c =
    let run : c.in-Some-2.answer ≡ answer_of_run c.args.rows.now c.args.row.now = search rules in
    decides c.args.rows.now c.args.row.now c.in-Some-2.answer
    (by_run c.args.rows.now c.args.row.now c.in-Some-2.answer c.had.ensures.collected c.in_ok-answer-2.ensures.collected run)

pub returns-in-Some-2-clause-had : goal.returns-in-Some-2-clause-had
returns-in-Some-2-clause-had c h = absurd (not_had c.args.rows.now c.args.row.now c.in_ok-answer.field-0 c.in_ok-answer.ensures.answer c.in_default.is h)

pub returns-in-None-clause-had : goal.returns-in-None-clause-had
returns-in-None-clause-had c h = not_had c.args.rows.now c.args.row.now c.in_ok-answer.field-0 c.in_ok-answer.ensures.answer c.in_default.is h
