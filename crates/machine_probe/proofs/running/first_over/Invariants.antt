use Rattle.machine_probe.proofs.Showing.{IsFirstUpTo}
use Rattle.machine_probe.proofs.running.first_over.Given as goal

-- The least probe up to this one that is over its limit is known.
abbrev pub invariant-loop-place : goal.invariant-loop-place
invariant-loop-place g l = IsFirstUpTo (λ b. (goal.Probe-dyn g (b.vtable, b.value)).standing b.value) l.place l.probes l.first
