-- Returning runs by number and as lists.
use Rattle.std.proofs.Common.{◌≡◌, ◌≢◌, ℕ, zero, suc, ◌+◌, List, [], ◌∷◌, length, refl, sym, ap, ◌∙◌, subst}
use Rattle.elf32_image.specs.Parts.{ImageValue}
use Rattle.fetch_timing.specs.declared.timing.Timing.{Timing}
use Rattle.arm_machine.specs.declared.events.Event.{Event}
use Rattle.arm_machine.specs.States.{State}
use Rattle.arm_machine.specs.Steps.{Outcome, step}
use Rattle.arm_machine.specs.Steps.Outcome.{Next, Stopped}
use Rattle.arm_machine.specs.Runs.{IfNext, IsRunOf, Returns, RunsHome, Stepped, run_cycles}

module _ (image : ImageValue) (t : Timing) (home : ℕ) where
  abbrev Rest : ℕ → ℕ → State → ℕ → Type 0
  Rest n c next spent = (rest : ℕ) × (c ≡ spent + rest) × Returns image t home next n rest

  first_step : (s : State) (n c : ℕ) → s.cpu.pc ≢ home
      → ((next : State) (rest : ℕ) → Returns image t home next n rest → IsRunOf image t home next n rest)
      → (o : Outcome) → step image t s ≡ o → IfNext o (Rest n c) → IsRunOf image t home s (suc n) c
  first_step s n c away again (Next next event) is r =
      let rest = again next r.0 r.2 in (
        record { from = s; event = event } ∷ rest.0,
        (refl, away, (next, is, rest.1)),
        ap suc rest.2,
        ap (λ (k : ℕ). event.cycles + k) rest.3 ∙ sym r.1,
      )
  first_step s n c away again (Stopped why) is r = absurd r

  pub run_list : (n : ℕ) (s : State) (c : ℕ) → Returns image t home s n c → IsRunOf image t home s n c
  run_list zero s c r = ([], r.0, refl, sym r.1)
  run_list (suc n) s c r = first_step s n c r.0 (λ next rest. run_list n next rest) (step image t s) refl r.1

  counted : (xs : List Stepped) (s : State) → RunsHome image t home s xs → Returns image t home s (length xs) (run_cycles xs)
  counted [] s r = (r, refl)
  counted (x ∷ xs) s r =
      let rest = counted xs r.2.0 r.2.2 in
      (r.1, subst (λ (o : Outcome). IfNext o (Rest (length xs) (x.event.cycles + run_cycles xs))) (sym r.2.1) (run_cycles xs, refl, rest))

  pub list_run : (n : ℕ) (s : State) (c : ℕ) → IsRunOf image t home s n c → Returns image t home s n c
  list_run n s c r =
      subst (λ (k : ℕ). Returns image t home s k c) r.2
      (subst (λ (k : ℕ). Returns image t home s (length r.0) k) r.3 (counted r.0 s r.1))
