-- A run of a machine that was started.
use Rattle.std.proofs.Common.{◌≡◌, ℕ, None, List, map, refl, ap, ◌∙◌, subst}
use Rattle.elf32_image.specs.Parts.{ImageValue}
use Rattle.fetch_timing.specs.declared.timing.Timing.{Timing}
use Rattle.arm_machine.specs.declared.events.Event.{Event}
use Rattle.arm_machine.specs.declared.start.RegisterValue.{RegisterValue}
use Rattle.arm_machine.specs.Machines.{MachineValue}
use Rattle.arm_machine.specs.Starting.{bad_start, start_state}
use Rattle.machine_probe.specs.declared.running.RunEnd.{RunEnd}
use Rattle.machine_probe.specs.declared.running.RunEnd.TheVariants as end
use Rattle.machine_probe.specs.ProbedRuns.{IsReturningRun, Ran}
use Rattle.machine_probe.specs.Weights.{Standing}
use Rattle.function_runs.specs.Causes.{HasEnd}
use Rattle.function_runs.specs.Lines.{result_text}
use Rattle.function_runs.specs.Results.{Ends, FunctionRun, IsResult, IsResultText, first_machine, tallies_of}

-- a machine that was started with these values
pub started : (image : ImageValue) (t : Timing) (entry sp stack : ℕ) (old : MachineValue) (values same : List RegisterValue) → values ≡ same → old ≡ record { image = image; timing = t; state = start_state image t entry sp stack values } → old ≡ record { image = image; timing = t; state = start_state image t entry sp stack same }
started image t entry sp stack old values same is made = made ∙ ap (λ (vs : List RegisterValue). record { image = image; timing = t; state = start_state image t entry sp stack vs }) is

-- there is a start
abbrev pub CanStart : FunctionRun → Type 0
CanStart run = bad_start run.image run.setup.sp run.setup.stack ≡ None

-- a run of this machine, as long as the setup allows and with the probes of the run
abbrev pub Runs : FunctionRun → MachineValue → MachineValue → RunEnd → List Standing → Type 0
Runs run old new e now = (events : List Event) × Ran old new run.setup.steps run.probes now e events

ends_so : (run : FunctionRun) (old new : MachineValue) (e : RunEnd) (now : List Standing) → old ≡ first_machine run → CanStart run → Runs run old new e now → Ends run e now
ends_so run old new e now same can ran = record { starts = can; runs = (new, ran.0, subst (λ (m : MachineValue). Ran m new run.setup.steps run.probes now e ran.0) same ran.1) }

pub has_end : (run : FunctionRun) (old new : MachineValue) (e : RunEnd) (now : List Standing) → old ≡ first_machine run → CanStart run → Runs run old new e now → HasEnd run e
has_end run old new e now same can ran = (now, ends_so run old new e now same can ran)

pub is_result : (run : FunctionRun) (old new : MachineValue) (steps cycles : ℕ) (now : List Standing) → old ≡ first_machine run → CanStart run → Runs run old new (end.Returned steps cycles) now → IsReturningRun old (end.Returned steps cycles) → IsResult run steps cycles (tallies_of now)
is_result run old new steps cycles now same can ran back = record {
  returns = subst (λ (m : MachineValue). IsReturningRun m (end.Returned steps cycles)) same back;
  ends = (now, ends_so run old new (end.Returned steps cycles) now same can ran, refl);
}

-- the text that is written of a result
pub is_text : {B : Type 0} (at : B → Standing) (run : FunctionRun) (shown probes : List B) (steps cycles : ℕ) (text : List ℕ) → shown ≡ probes → IsResult run steps cycles (tallies_of (map at probes)) → text ≡ result_text steps cycles (tallies_of (map at shown)) → IsResultText run text
is_text at run shown probes steps cycles text same result written =
    (steps, cycles, tallies_of (map at probes), result, written ∙ ap (λ (ps : List _). result_text steps cycles (tallies_of (map at ps))) same)
