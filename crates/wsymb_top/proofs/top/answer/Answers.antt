use Rattle.std.proofs.Common.{sym, ◌∙◌}
use Rattle.wsymb_top.proofs.Answering.{due_of, if_refused, memory_due}
use Rattle.wsymb_top.proofs.top.answer.Goals as goal

pub returns-in-Ok-Some-clause-refused : goal.returns-in-Ok-Some-clause-refused
returns-in-Ok-Some-clause-refused g c =
    if_refused _ _ _ c.answer_command.ensures.refused (λ why. due_of _ c.in-Ok-Some.command why
    (sym c.in-Ok-Some.field-0-is ∙ c.in-Ok-Some.ensures.value))

pub returns-in-Err-clause-refused : goal.returns-in-Err-clause-refused
returns-in-Err-clause-refused g c = memory_due _
