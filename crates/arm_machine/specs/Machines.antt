-- The machine as a program keeps it, and what its calls answer.
use Rattle.std.specs.Prelude.{◌≡◌, Result, Ok, Err, length}
use Rattle.elf32_image.specs.Parts.{ImageValue}
use Rattle.fetch_timing.specs.declared.timing.Timing.{Timing}
use Rattle.fetch_timing.specs.Timings.{IsWithinLimits}
use Rattle.fetch_timing.specs.Caches.{Cache}
use Rattle.arm_machine.specs.declared.events.Event.{Event}
use Rattle.arm_machine.specs.declared.state.MachineState.{MachineState}
use Rattle.arm_machine.specs.declared.stops.StepEnd.{StepEnd}
use Rattle.arm_machine.specs.declared.stops.StepEnd.TheVariants as end
use Rattle.arm_cpu.specs.declared.stops.Stop.{Stop}
use Rattle.arm_machine.specs.States.{State}
use Rattle.arm_machine.specs.Steps.{Outcome}
use Rattle.arm_machine.specs.Steps.Outcome.{Next, Stopped}

abbrev pub state_of : MachineState → State
state_of m = record { cpu = m.cpu; memory = m.memory.bytes; kept = m.kept.items; sets = m.cache.sets }

-- What a call does to the state: what is stated of it, or the machine stops, or memory is refused, and the state is as before.
abbrev pub Ends : {U : Type 0} → Result State Stop → State → State → Result U StepEnd → Type 0
Ends outcome old new (Ok done) = outcome ≡ Ok new
Ends outcome old new (Err (end.Stop stop)) = (outcome ≡ Err stop) × (new ≡ old)
Ends outcome old new (Err end.Memory) = new ≡ old

-- the end of a step whose instruction stops, if it does
abbrev pub end_of : {U : Type 0} → Result U Stop → Result U StepEnd
end_of (Ok done) = Ok done
end_of (Err stop) = Err (end.Stop stop)

-- What a step does to the state, and what it answers: the event of the step that is stated, or its stop; after an error the
-- state is as before.
abbrev pub Answers : Outcome → State → State → Result Event StepEnd → Type 0
Answers outcome old new (Ok event) = outcome ≡ Next new event
Answers outcome old new (Err (end.Stop stop)) = (outcome ≡ Stopped stop) × (new ≡ old)
Answers outcome old new (Err end.Memory) = new ≡ old

-- the timing is within its limits, and the cache has its ways and sets
pub record IsReady (t : Timing) (cache : Cache) : Type 0 where
  pub limits : IsWithinLimits t
  pub ways : cache.ways ≡ t.ways
  pub sets : length cache.sets ≡ t.sets

-- what a machine is: the image from which it takes instructions, the timing by which it counts, and its state
pub record MachineValue : Type 0 where
  pub image : ImageValue
  pub timing : Timing
  pub state : State

-- What a step does to a machine; its image and timing stay.
abbrev pub Makes : Outcome → MachineValue → MachineValue → Result Event StepEnd → Type 0
Makes outcome old new (Ok event) = (outcome ≡ Next new.state event) × (new ≡ record old { state = new.state })
Makes outcome old new (Err (end.Stop stop)) = (outcome ≡ Stopped stop) × (new ≡ old)
Makes outcome old new (Err end.Memory) = new ≡ old
