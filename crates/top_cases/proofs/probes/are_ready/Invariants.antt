use Rattle.std.proofs.Common.{map, take}
use Rattle.machine_probe.specs.Weights.{AreReady}
use Rattle.top_cases.proofs.probes.are_ready.Given as goal

abbrev pub invariant-loop-probe : goal.invariant-loop-probe
invariant-loop-probe g l = AreReady (map (λ b. (goal.Probe-dyn g (b.vtable, b.value)).standing b.value) (take l.probe-index l.probes))
