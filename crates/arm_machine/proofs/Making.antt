-- A step of a machine is the step of its state.
use Rattle.std.proofs.Common.{◌≡◌, Result, Ok, Err, refl, ap, subst}
use Rattle.elf32_image.specs.Parts.{ImageValue}
use Rattle.fetch_timing.specs.declared.timing.Timing.{Timing}
use Rattle.arm_machine.specs.declared.events.Event.{Event}
use Rattle.arm_machine.specs.declared.stops.StepEnd.{StepEnd}
use Rattle.arm_machine.specs.declared.stops.StepEnd.TheVariants as end
use Rattle.arm_machine.specs.States.{State}
use Rattle.arm_machine.specs.Steps.{step}
use Rattle.arm_machine.specs.Machines.{Answers, Makes, MachineValue}

abbrev machine : ImageValue → Timing → State → MachineValue
machine image t s = record { image = image; timing = t; state = s }

made_at : (image : ImageValue) (t : Timing) (old new : State) (result : Result Event StepEnd) → Answers (step image t old) old new result → Makes (step image t old) (machine image t old) (machine image t new) result
made_at image t old new (Ok event) answer = (answer, refl)
made_at image t old new (Err (end.Stop stop)) answer = (answer.0, ap (machine image t) answer.1)
made_at image t old new (Err end.Memory) answer = ap (machine image t) answer

pub made : (image : ImageValue) (t : Timing) (old new : State) (m : MachineValue) (result : Result Event StepEnd) → machine image t old ≡ m → Answers (step image t old) old new result → Makes (step m.image m.timing m.state) m (machine image t new) result
made image t old new m result is answer =
    subst (λ (k : MachineValue). Makes (step k.image k.timing k.state) k (machine image t new) result) is (made_at image t old new result answer)
