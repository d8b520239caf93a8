use Rattle.std.proofs.Common.{rules, ◌≡◌}
use Rattle.farkas.specs.Deciding.{emptiness_of_run}
use Rattle.farkas.proofs.Having.{decides_emptiness, by_empty, by_empty_run, not_absurd}
use Rattle.farkas.proofs.entailment.empty.Goals as goal

pub returns-in-Some-clause-evidence : goal.returns-in-Some-clause-evidence
returns-in-Some-clause-evidence c = (by_empty c.args.rows.now c.in-Some.answer c.in_ok-answer.field-0 c.in_ok-answer.ensures c.in-Some.is).0

pub returns-in-Some-clause-decides : goal.returns-in-Some-clause-decides
returns-in-Some-clause-decides c =
    decides_emptiness c.args.rows.now c.in-Some.answer (by_empty c.args.rows.now c.in-Some.answer c.in_ok-answer.field-0 c.in_ok-answer.ensures c.in-Some.is).0

pub returns-in-Some-clause-had : goal.returns-in-Some-clause-had
returns-in-Some-clause-had c h = (by_empty c.args.rows.now c.in-Some.answer c.in_ok-answer.field-0 c.in_ok-answer.ensures c.in-Some.is).1

pub returns-in-Some-2-clause-evidence : goal.returns-in-Some-2-clause-evidence
returns-in-Some-2-clause-evidence c =
    let run : c.in-Some-2.answer ≡ emptiness_of_run c.args.rows.now = search rules in
    by_empty_run c.args.rows.now c.in-Some-2.answer c.in_ok-answer-2.ensures.collected run

pub returns-in-Some-2-clause-decides : goal.returns-in-Some-2-clause-decides
returns-in-Some-2-clause-decides c =
    let run : c.in-Some-2.answer ≡ emptiness_of_run c.args.rows.now = search rules in
    decides_emptiness c.args.rows.now c.in-Some-2.answer (by_empty_run c.args.rows.now c.in-Some-2.answer c.in_ok-answer-2.ensures.collected run)

pub returns-in-Some-2-clause-had : goal.returns-in-Some-2-clause-had
returns-in-Some-2-clause-had c h = absurd (not_absurd c.args.rows.now c.in_ok-answer.field-0 c.in_ok-answer.ensures c.in_default.is h)

pub returns-in-None-clause-had : goal.returns-in-None-clause-had
returns-in-None-clause-had c h = not_absurd c.args.rows.now c.in_ok-answer.field-0 c.in_ok-answer.ensures c.in_default.is h
