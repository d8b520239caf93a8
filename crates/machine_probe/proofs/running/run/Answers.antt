use Rattle.std.proofs.Common.{◌≡◌, ◌∙◌, sym, arith}
use Rattle.machine_probe.proofs.Ongoing.{as_many, begins, ends_by_step, few_cycles, goes_underway, ran_returns, returned_now, room_underway}
use Rattle.machine_probe.proofs.running.run.Goals as goal

pub loop-done-init : goal.loop-done-init
loop-done-init g c = begins _ _ _

pub returns-then-returned-clause-returned : goal.returns-then-returned-clause-returned
returns-then-returned-clause-returned g c =
    ran_returns _ _ _ _ _ _ _ (returned_now _ _ _ _ _ _ _ _ c.loop-done.invariant.1 (sym c.returned.ensures ∙ c.if-returned.true))

pub advance-requires-clause-few : goal.advance-requires-clause-few
advance-requires-clause-few g c =
    omega (arith, as_many (λ b. (goal.Probe-dyn g (b.vtable, b.value)).standing b.value) _ _ _ _ _ _ _ _ c.loop-done.invariant.1, c.requires.few)

pub advance-requires-clause-small : goal.advance-requires-clause-small
advance-requires-clause-small g c =
    room_underway (λ b. (goal.Probe-dyn g (b.vtable, b.value)).standing b.value) _ _ _ _ _ _ _ _ c.loop-done.invariant.1 (omega arith) c.requires.tallies

pub overflow_add-cycles : goal.overflow_add-cycles
overflow_add-cycles g c =
    let so_far = few_cycles _ _ _ _ _ _ _ _ c.loop-done.invariant.1 in
    omega (arith, so_far, c.in-Ok.ensures.1.limit, c.in-Ok.ensures.2, c.from-cycles.ensures)

pub returns-in-Err-clause-ran : goal.returns-in-Err-clause-ran
returns-in-Err-clause-ran g c =
    ends_by_step _ _ _ _ _ _ _ _ _ _ _ c.loop-done.invariant.1 (sym c.returned.ensures ∙ c.if-returned.false) c.loop-done-test.true c.in-Err.ensures

pub returns-in-Err-clause-returned : goal.returns-in-Err-clause-returned
returns-in-Err-clause-returned g c =
    ran_returns _ _ _ _ _ _ _
    (ends_by_step _ _ _ _ _ _ _ _ _ _ c.in-Err.end c.loop-done.invariant.1 (sym c.returned.ensures ∙ c.if-returned.false) c.loop-done-test.true c.in-Err.ensures).1

pub loop-done-preserved : goal.loop-done-preserved
loop-done-preserved g c =
    rw c.from-cycles.ensures
    (goes_underway _ _ _ _ _ _ _ _ _ _ _ c.loop-done.invariant.1 (sym c.returned.ensures ∙ c.if-returned.false) c.loop-done-test.true c.in-Ok.ensures)

pub returns-then-returned-2-clause-returned : goal.returns-then-returned-2-clause-returned
returns-then-returned-2-clause-returned g c =
    let all : c.loop-done.done ≡ c.args.steps = omega (arith, c.loop-done.auto.done-end) in
    rw (← all)
    (ran_returns _ _ _ _ _ _ _ (returned_now _ _ _ _ _ _ _ _ c.loop-done.invariant.1 (sym c.returned-2.ensures ∙ c.if-returned-2.true)))
