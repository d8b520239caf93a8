use Rattle.std.proofs.Common.{ℕ, subst}
use Rattle.std.proofs.lemmas.Result.{err_from_is_err_and}
use Rattle.copy_facts.specs.Frames.{IsRefusedFrame, NoneLost, NoneOver, NoneUnproved}
use Rattle.wcet_core.proofs.RefusalLemmas.{frames_refused}
use Rattle.wcet_core.proofs.structures.check_frames.Goals as goal

pub returns-in_err-function_frames-clause-refused : goal.returns-in_err-function_frames-clause-refused
returns-in_err-function_frames-clause-refused c =
    let p = err_from_is_err_and c.from_residual.result c.from_residual.ensures.1 in
    let s = c.args.structure.now in
    let is = c.requires.structure in
    let cause = subst (λ (e : ℕ). IsRefusedFrame c.args.image.now e c.args.stack c.in_err-function_frames.field-0.0)
    is.function.graph.graph.entry c.in_err-function_frames.ensures.refused in
    rw (p.1, p.2)
    (λ t. frames_refused c.args.image.now t c.args.entry c.args.stack (s.function.graph, is.function.graph, (s.nest, is.nest))
    c.in_err-function_frames.field-0.0 cause)

pub returns-clause-framed : goal.returns-clause-framed
returns-clause-framed c =
    let entry = c.requires.structure.function.graph.graph.entry in
    record {
      lost = subst (λ (e : ℕ). NoneLost c.args.image.now e c.args.stack) entry c.in_ok-function_frames.ensures.lost;
      over = subst (λ (e : ℕ). NoneOver c.args.image.now e c.args.stack) entry c.in_ok-function_frames.ensures.over;
      unproved = subst (λ (e : ℕ). NoneUnproved c.args.image.now e c.args.stack) entry c.in_ok-function_frames.ensures.unproved;
    }
