-- That a run has one result or one refusal.
use Rattle.std.specs.Prelude.{◌≡◌, ◌≢◌, ℕ, List}
use Rattle.function_runs.specs.declared.refusals.RunRefusal.{RunRefusal}
use Rattle.function_runs.specs.declared.refusals.RunRefusal.TheVariants.{Memory}
use Rattle.function_runs.specs.Causes.{IsRefused}
use Rattle.function_runs.specs.Results.{FunctionRun, IsResult}

-- two results have the same steps, cycles and tallies
abbrev pub HasOneResult : FunctionRun → Type 0
HasOneResult run =
    (steps1 steps2 cycles1 cycles2 : ℕ) (tallies1 tallies2 : List ℕ)
    → IsResult run steps1 cycles1 tallies1
    → IsResult run steps2 cycles2 tallies2
    → (steps1 ≡ steps2) × (cycles1 ≡ cycles2) × (tallies1 ≡ tallies2)

-- no run has a result and a cause, other than memory, to be refused
abbrev pub HasNotBoth : FunctionRun → Type 0
HasNotBoth run =
    (steps cycles : ℕ) (tallies : List ℕ) (why : RunRefusal)
    → IsResult run steps cycles tallies
    → IsRefused run why
    → why ≢ Memory
    → ⊥

-- two causes other than memory to refuse a run are the same
abbrev pub HasOneCause : FunctionRun → Type 0
HasOneCause run =
    (why1 why2 : RunRefusal)
    → IsRefused run why1
    → IsRefused run why2
    → why1 ≢ Memory
    → why2 ≢ Memory
    → why1 ≡ why2

-- What came of a run is known but for a want of memory.
pub record HasOneOutcome (run : FunctionRun) : Type 0 where
  pub result : HasOneResult run
  pub exclusive : HasNotBoth run
  pub cause : HasOneCause run
