-- What two runs of one machine have in common.
use Rattle.std.specs.Prelude.{◌≡◌, ◌≢◌, ℕ, List}
use Rattle.arm_machine.specs.declared.events.Event.{Event}
use Rattle.arm_machine.specs.Machines.{MachineValue}
use Rattle.machine_probe.specs.declared.running.RunEnd.{RunEnd}
use Rattle.machine_probe.specs.declared.running.RunEnd.TheVariants as end
use Rattle.machine_probe.specs.ProbedRuns.{Ran}
use Rattle.machine_probe.specs.Weights.{Standing}

-- Two runs of this machine, with one number of steps allowed and these probes, of which neither ends for want of memory, end alike:
-- for the same reason, with the probes and the machine in the same state.
abbrev pub AgreeOn : MachineValue → ℕ → List Standing → Type 0
AgreeOn old steps before =
    (new1 new2 : MachineValue) (now1 now2 : List Standing) (end1 end2 : RunEnd) (events1 events2 : List Event)
    → Ran old new1 steps before now1 end1 events1
    → Ran old new2 steps before now2 end2 events2
    → end1 ≢ end.Memory
    → end2 ≢ end.Memory
    → (end1 ≡ end2) × (now1 ≡ now2) × (new1 ≡ new2)
