use Rattle.std.proofs.Common.{arith}
use Rattle.machine_probe.proofs.Showing.{all_seen, has_room, next_seen}
use Rattle.machine_probe.proofs.running.show.Goals as goal

pub show_one-stops-requires : goal.show_one-stops-requires
show_one-stops-requires g c =
    has_room (λ b. (goal.Probe-dyn g (b.vtable, b.value)).standing b.value) c.args.event.now c.loop-probe.probe-index c.loop-probe.probes c.args.probes.now
    c.loop-probe.stops _ c.loop-probe.invariant (omega (arith, c.loop-probe.auto.probes, c.loop-probe-test.true)) c.requires

pub loop-probe-preserved : goal.loop-probe-preserved
loop-probe-preserved g c =
    rw c.show_one-stops.ensures.answers
    (next_seen (λ b. (goal.Probe-dyn g (b.vtable, b.value)).standing b.value) c.args.event.now c.loop-probe.probe-index c.loop-probe.probes c.args.probes.now
    c.loop-probe.stops c.show_one-stops.new.probe _ c.loop-probe.invariant (omega (arith, c.loop-probe.auto.probes, c.loop-probe-test.true)) c.show_one-stops.ensures.counts)

pub returns-clause-counts : goal.returns-clause-counts
returns-clause-counts g c =
    (all_seen (λ b. (goal.Probe-dyn g (b.vtable, b.value)).standing b.value) c.args.event.now c.loop-probe.probe-index c.loop-probe.probes c.args.probes.now
    c.loop-probe.stops c.loop-probe.invariant (omega (arith, c.loop-probe.auto.probes, c.loop-probe-test.false)) c.loop-probe.auto.probes).0
