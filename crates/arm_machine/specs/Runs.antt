-- Returning runs: relations over any number of steps.
use Rattle.std.specs.Prelude.{◌≡◌, ◌≢◌, ℕ, zero, suc, ◌+◌, List, [], ◌∷◌, length}
use Rattle.elf32_image.specs.Parts.{ImageValue}
use Rattle.fetch_timing.specs.declared.timing.Timing.{Timing}
use Rattle.arm_machine.specs.declared.events.Event.{Event}
use Rattle.arm_machine.specs.States.{State}
use Rattle.arm_machine.specs.Steps.{Outcome, step}
use Rattle.arm_machine.specs.Steps.Outcome.{Next, Stopped}

-- the step doesn't stop, and the fact holds of what it leads to and costs
abbrev pub IfNext : Outcome → (State → ℕ → Type 0) → Type 0
IfNext (Next s event) P = P s event.cycles
IfNext (Stopped stop) P = ⊥

-- From this state n steps meet no stop and cost c cycles together, and pc is home after them and after no fewer.
abbrev pub Returns : ImageValue → Timing → ℕ → State → ℕ → ℕ → Type 0
Returns image t home s zero c = (s.cpu.pc ≡ home) × (c ≡ 0)
Returns image t home s (suc n) c =
    (s.cpu.pc ≢ home) × IfNext (step image t s) (λ next spent. (rest : ℕ) × (c ≡ spent + rest)
    × Returns image t home next n rest)

-- a step of a run: the state before it, and what can be seen of it
pub record Stepped : Type 0 where
  pub from : State
  pub event : Event

-- The steps of a run from a state on, until pc is home: none of them stops, and pc isn't home before any of them.
abbrev pub RunsHome : ImageValue → Timing → ℕ → State → List Stepped → Type 0
RunsHome image t home s [] = s.cpu.pc ≡ home
RunsHome image t home s (x ∷ xs) =
    (x.from ≡ s) × (s.cpu.pc ≢ home) × ((next : State) × (step image t s ≡ Next next x.event)
    × RunsHome image t home next xs)

abbrev pub run_cycles : List Stepped → ℕ
run_cycles [] = 0
run_cycles (x ∷ xs) = x.event.cycles + run_cycles xs

-- a returning run as a list of n steps whose cycles are c together
abbrev pub IsRunOf : ImageValue → Timing → ℕ → State → ℕ → ℕ → Type 0
IsRunOf image t home s n c = (xs : List Stepped) × RunsHome image t home s xs × (length xs ≡ n) × (run_cycles xs ≡ c)
