use Rattle.std.proofs.Common.{refl}
use Rattle.elimination_plans.specs.Stages.{first_stage}
use Rattle.node_elimination.proofs.StageStateLemmas.{on_the_way, at_the_end, other_ok}
use Rattle.node_elimination.proofs.taking.Elimination.take_out_all.Goals as goal

pub loop-round-init : goal.loop-round-init
loop-round-init c k rank h held = (first_stage k, (0, refl), held)

pub loop-round-preserved : goal.loop-round-preserved
loop-round-preserved c k rank h held =
    on_the_way c.args.self.now c.loop-round.self c.take_out_next.new.self c.in-Ok.more c.if-not-more.false c.in-Ok.ensures.went k rank h
    (c.loop-round.invariant k rank h held)

pub returns-then-not-more-clause-done : goal.returns-then-not-more-clause-done
returns-then-not-more-clause-done c k rank h held =
    at_the_end c.loop-round.self c.take_out_next.new.self c.in-Ok.more c.if-not-more.true c.in-Ok.ensures.went k rank h
    (c.loop-round.invariant k rank h held)

pub returns-in-Err-clause-large : goal.returns-in-Err-clause-large
returns-in-Err-clause-large c e k rank h held = (let i = c.loop-round.invariant k rank h held in
    c.in-Err.ensures.large (other_ok _ _ e) k rank i.0 h i.1 i.2)
