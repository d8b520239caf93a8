use Rattle.std.proofs.Common.{ℕ, List, inr, subst}
use Rattle.wsymb_top.specs.Answers.{IsDelivered, Writing, writing_of}
use Rattle.wsymb_top.proofs.refusal_lines.refuse.Goals as goal

pub returns-in-Err-clause-refused : goal.returns-in-Err-clause-refused
returns-in-Err-clause-refused g c =
    let writing : Writing = writing_of g.K.Sink.contents g.K.Sink.faults c.args.out.now c.deliver-in-Err.new.out in
    inr (subst (λ (text : List ℕ). IsDelivered text 1 writing c.deliver-in-Err.result) c.as_bytes-in-Err.ensures.value
    c.deliver-in-Err.ensures.delivered)
