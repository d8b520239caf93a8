use Rattle.top_cases.proofs.Readiness.{all_ready, ready_next}
use Rattle.top_cases.proofs.probes.are_ready.Goals as goal

pub loop-probe-preserved : goal.loop-probe-preserved
loop-probe-preserved g c =
    ready_next (λ b. (goal.Probe-dyn g (b.vtable, b.value)).standing b.value) c.args.probes.now c.loop-probe.probe-index c.probe-item.result
    c.probe-item.is c.loop-probe.invariant c.loop-probe-test.true (c.is_ready.ensures c.if-not-is_ready.false)

pub returns-clause-small : goal.returns-clause-small
returns-clause-small g c =
    λ _. all_ready (λ b. (goal.Probe-dyn g (b.vtable, b.value)).standing b.value) c.args.probes.now c.loop-probe.probe-index
    c.loop-probe.invariant c.loop-probe-test.false
