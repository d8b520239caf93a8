use Rattle.std.proofs.Common.{List, map}
use Rattle.arm_machine.specs.declared.events.Event.{Event}
use Rattle.machine_probe.proofs.Ongoing.{IsUnderway}
use Rattle.machine_probe.proofs.running.run.Given as goal

-- This number of steps is made, and no probe halts the run by their events.
abbrev pub invariant-loop-done : goal.invariant-loop-done
invariant-loop-done g l =
    (events : List Event) × IsUnderway l.fn.machine l.machine l.fn.steps
    (map (λ b. (goal.Probe-dyn g (b.vtable, b.value)).standing b.value) l.fn.probes.items)
    (map (λ b. (goal.Probe-dyn g (b.vtable, b.value)).standing b.value) l.probes.items) events l.done l.cycles
