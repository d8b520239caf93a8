-- Runs that probes watch.
use Rattle.std.specs.Prelude.{◌≡◌, ℕ, ◌+◌, ◌==◌, ◌≤◌, if◌then◌else◌, List, [], ◌∷◌, ◌++◌, length, map, position, Option, Some, None, option_map, Result, Ok, Err}
use Rattle.std.specs.List.{sum_by}
use Rattle.std.specs.Option.{option_or}
use Rattle.arm_machine.specs.declared.events.Event.{Event}
use Rattle.arm_machine.specs.Machines.{MachineValue}
use Rattle.arm_machine.specs.Runs.{Returns}
use Rattle.arm_machine.specs.Starting.{home}
use Rattle.arm_machine.specs.States.{State}
use Rattle.arm_machine.specs.Steps.{Outcome, step}
use Rattle.arm_machine.specs.Steps.Outcome.{Next, Stopped}
use Rattle.machine_probe.specs.declared.running.RunEnd.{RunEnd}
use Rattle.machine_probe.specs.declared.running.RunEnd.TheVariants as end
use Rattle.machine_probe.specs.Weights.{Standing, is_over, seen, weight_by}

-- a probe that has seen these events: its tally is what it was, and the sum of their weights
abbrev pub after : List Event → Standing → Standing
after events p = record p { tally = p.tally + sum_by (weight_by p.rule.weigh) events }

-- what a run is given: the machine's step, how many steps it may make, and where the probes stand
pub record Task : Type 0 where
  pub step : State → Outcome
  pub steps : ℕ
  pub probes : List Standing

-- the least probe whose tally the last of these events leaves above its limit
abbrev pub halting : List Standing → List Event → Option ℕ
halting probes [] = None
halting probes (e ∷ events) = position is_over (map (after (e ∷ events)) probes)

abbrev pub all_cycles : List Event → ℕ
all_cycles = sum_by (λ e. e.cycles)

-- The end of a run that has made these events and come to this state, where it tries no step: the last event made a probe
-- halt it, or the machine has returned, or all steps are made. They are tested in this order.
abbrev pub end_before_step : Task → List Event → State → Option RunEnd
end_before_step task events s =
    option_or (option_map (λ place. end.Halted place) (halting task.probes events))
    (if s.cpu.pc == home then Some (end.Returned (length events) (all_cycles events))
    else if length events == task.steps then Some end.Spent
    else None)

-- the end by the step that a run tries, where that stops
abbrev pub end_by_step : Outcome → ℕ → Option RunEnd
end_by_step (Next s e) a = None
end_by_step (Stopped stop) a = Some (end.Stopped stop a)

-- The end of a run that has made these events and come to this state, if it ends there.
abbrev pub end_after : Task → List Event → State → Option RunEnd
end_after task events s = option_or (end_before_step task events s) (end_by_step (task.step s) s.cpu.pc)

-- A run that has made the events before and come to s makes these events by the machine's steps, in order, and comes to u.
-- It has no end before any of these steps.
abbrev pub Goes : Task → List Event → State → List Event → State → Type 0
Goes task before s [] u = u ≡ s
Goes task before s (e ∷ events) u =
    (end_before_step task before s ≡ None)
    × ((next : State) × (task.step s ≡ Next next e) × Goes task (before ++ e ∷ []) next events u)

-- A run ends so, where it has made these events and come to this state; for want of memory only at a step that it tries.
abbrev pub EndsBy : Task → List Event → State → RunEnd → Type 0
EndsBy task events s (end.Returned steps cycles) = end_after task events s ≡ Some (end.Returned steps cycles)
EndsBy task events s (end.Stopped stop address) = end_after task events s ≡ Some (end.Stopped stop address)
EndsBy task events s (end.Halted probe) = end_after task events s ≡ Some (end.Halted probe)
EndsBy task events s end.Spent = end_after task events s ≡ Some end.Spent
EndsBy task events s end.Memory = end_before_step task events s ≡ None

abbrev pub task_of : MachineValue → ℕ → List Standing → Task
task_of m steps probes = record { step = step m.image m.timing; steps = steps; probes = probes }

-- A run makes these events: what it does to the machine and the probes, and how it ends.
pub record Ran (old new : MachineValue) (steps : ℕ) (before now : List Standing) (end : RunEnd) (events : List Event) : Type 0 where
  pub machine : new ≡ record old { state = new.state }
  pub goes : Goes (task_of old steps before) [] old.state events new.state
  pub tallies : now ≡ map (after events) before
  pub ends : EndsBy (task_of old steps before) events new.state end

-- a run that has returned is a returning run of the machine, with these steps and cycles
abbrev pub IsReturningRun : MachineValue → RunEnd → Type 0
IsReturningRun m (end.Returned steps cycles) = Returns m.image m.timing home m.state steps cycles
IsReturningRun m (end.Stopped stop address) = Unit {0}
IsReturningRun m (end.Halted probe) = Unit {0}
IsReturningRun m end.Spent = Unit {0}
IsReturningRun m end.Memory = Unit {0}

-- A step that is shown to the probes: its event, what it does to the machine, and where the probes stand then.
pub record Shows (outcome : Outcome) (old new : MachineValue) (before now : List Standing) (e : Event) : Type 0 where
  pub step : outcome ≡ Next new.state e
  pub machine : new ≡ record old { state = new.state }
  pub tallies : now ≡ map (seen e) before
  pub limit : e.cycles ≤ 18000000

-- What one step of a run does: it gives what the step cost where the run may go on, and else how the run ends.
abbrev pub Advances : Outcome → MachineValue → MachineValue → List Standing → List Standing → Result ℕ RunEnd → Type 0
Advances outcome old new before now (Ok cycles) =
    (e : Event) × Shows outcome old new before now e × (cycles ≡ e.cycles) × (position is_over now ≡ None)
Advances outcome old new before now (Err (end.Halted place)) =
    (e : Event) × Shows outcome old new before now e × (position is_over now ≡ Some place)
Advances outcome old new before now (Err (end.Stopped stop address)) =
    (outcome ≡ Stopped stop) × (address ≡ old.state.cpu.pc) × (new ≡ old) × (now ≡ before)
Advances outcome old new before now (Err end.Memory) = (new ≡ old) × (now ≡ before)
Advances outcome old new before now (Err (end.Returned steps cycles)) = ⊥
Advances outcome old new before now (Err end.Spent) = ⊥
