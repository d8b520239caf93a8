use Rattle.machine_probe.proofs.Showing.{SeenUpTo}
use Rattle.machine_probe.proofs.running.show.Given as goal

-- The probes up to this one have seen the event, and the others stand where they did.
abbrev pub invariant-loop-probe : goal.invariant-loop-probe
invariant-loop-probe g l = SeenUpTo (λ b. (goal.Probe-dyn g (b.vtable, b.value)).standing b.value) l.event l.probe-index l.probes l.fn.probes l.stops
