-- What a run of a function starts with, how it ends, and its result.
use Rattle.std.specs.Prelude.{◌≡◌, ℕ, None, List, map}
use Rattle.elf32_image.specs.Parts.{ImageValue}
use Rattle.fetch_timing.specs.declared.timing.Timing.{Timing}
use Rattle.command_words.specs.declared.options.Setup.{Setup}
use Rattle.arm_machine.specs.declared.events.Event.{Event}
use Rattle.arm_machine.specs.Machines.{MachineValue}
use Rattle.arm_machine.specs.Runs.{Returns}
use Rattle.arm_machine.specs.Starting.{bad_start, home, start_state}
use Rattle.arm_machine.specs.States.{State}
use Rattle.machine_probe.specs.declared.running.RunEnd.{RunEnd}
use Rattle.machine_probe.specs.declared.running.RunEnd.TheVariants as end
use Rattle.machine_probe.specs.ProbedRuns.{Ran}
use Rattle.machine_probe.specs.Weights.{Standing}
use Rattle.function_runs.specs.Lines.{result_text}

-- What is run: the function at an entry of an image, by a timing, from the start and for the steps of a setup, with probes that
-- stand so before the run.
pub record FunctionRun : Type 0 where
  pub image : ImageValue
  pub timing : Timing
  pub entry : ℕ
  pub setup : Setup
  pub probes : List Standing

-- the state with which it starts, and the machine in it
abbrev pub first_state : FunctionRun → State
first_state run = start_state run.image run.timing run.entry run.setup.sp run.setup.stack run.setup.values

abbrev pub first_machine : FunctionRun → MachineValue
first_machine run = record { image = run.image; timing = run.timing; state = first_state run }

-- what the probes have counted
abbrev pub tallies_of : List Standing → List ℕ
tallies_of = map (λ p. p.tally)

-- There is a start, and a run from it ends so, with the probes where they stand then.
pub record Ends (run : FunctionRun) (end : RunEnd) (now : List Standing) : Type 0 where
  pub starts : bad_start run.image run.setup.sp run.setup.stack ≡ None
  pub runs : (new : MachineValue) × (events : List Event) × Ran (first_machine run) new run.setup.steps run.probes now end events

-- The function returns after this number of steps, of this number of cycles, by the machine's definition, and the run ends so, with these
-- tallies.
pub record IsResult (run : FunctionRun) (steps cycles : ℕ) (tallies : List ℕ) : Type 0 where
  pub returns : Returns run.image run.timing home (first_state run) steps cycles
  pub ends : (now : List Standing) × Ends run (end.Returned steps cycles) now × (tallies ≡ tallies_of now)

-- the text of a result
abbrev pub IsResultText : FunctionRun → List ℕ → Type 0
IsResultText run text =
    (steps cycles : ℕ) × (tallies : List ℕ) × IsResult run steps cycles tallies × (text ≡ result_text steps cycles tallies)
