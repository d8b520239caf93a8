-- A step by its parts: what was fetched, whether its condition passes, and what a done instruction does.
use Rattle.std.proofs.Common.{◌≡◌, ℕ, ◌+◌, ◌%◌, Bool, true, false, cond, Option, Some, None, Result, Ok, Err, List, refl, sym, ap, ◌∙◌}
use Rattle.std.proofs.Common.{subst, arith}
use Rattle.std.proofs.lemmas.Bool.{false≢true}
use Rattle.elf32_image.specs.Parts.{ImageValue}
use Rattle.elf32_image.specs.Bytes.{is_code}
use Rattle.arm_isa.specs.declared.instruction.Insn.{Insn}
use Rattle.arm_isa.specs.Conditions.{condition_passes}
use Rattle.arm_isa.specs.Ranges.{IsOp}
use Rattle.fetch_timing.specs.declared.timing.Timing.{Timing}
use Rattle.control_flow.specs.Instructions.{decoded, fetched, instruction_at}
use Rattle.arm_cpu.specs.declared.stops.Stop.{Stop}
use Rattle.arm_machine.specs.declared.events.Event.{Event}
use Rattle.arm_machine.specs.States.{State}
use Rattle.arm_machine.specs.Effects.{effect}
use Rattle.arm_machine.specs.Laws.{IfDone, IfStep}
use Rattle.arm_machine.specs.Orderly.{HasConstants, IsOrderly}
use Rattle.arm_machine.specs.Steps.{Outcome, charge, event_at, outcome_of, settle, step, step_of}
use Rattle.arm_machine.proofs.ConstantLemmas.{constants_stay}
use Rattle.arm_machine.proofs.OrderLemmas.{stays_orderly}
use Rattle.arm_machine.proofs.WordLemmas.{advanced_words}

code_test : (code : Bool) (found : Option Insn) (insn : Insn) → cond code found None ≡ Some insn → code ≡ true
code_test true found insn h = refl
code_test false found insn h = cc

chosen : {A : Type 0} (test : Bool) (x y : A) → test ≡ true → cond test x y ≡ x
chosen true x y h = refl
chosen false x y h = absurd (false≢true h)

-- a step from an instruction of the image
pub step_at : (image : ImageValue) (t : Timing) (s : State) (insn : Insn) (done : Bool) → instruction_at image s.cpu.pc ≡ Some insn
    → condition_passes insn.condition s.cpu.flags ≡ done → step image t s ≡ charge t s insn done (outcome_of image s insn done)
step_at image t s insn done found passes =
    ap (step_of image t s)
    (chosen (is_code image s.cpu.pc) (decoded (instruction_at image s.cpu.pc)) _ (code_test (is_code image s.cpu.pc) _ insn found)
    ∙ ap decoded found)
    ∙ ap (λ (b : Bool). charge t s insn b (outcome_of image s insn b)) passes

-- what a fact of the state after the effect says of the state after the step
pub charged : (t : Timing) (s : State) (insn : Insn) (done : Bool) (outcome : Result State Stop) (P : State → Type 0) → IfDone outcome P
    → IfStep (charge t s insn done outcome)
    (λ next event. (mid : State) × P mid × (next ≡ settle t s.cpu.pc mid) × (event ≡ event_at t s.sets s.cpu.pc insn done))
charged t s insn done (Ok mid) P h = (mid, h, refl, refl)
charged t s insn done (Err why) P h = tt

pub if_step : (o : Outcome) (P Q : State → Event → Type 0) → ((s : State) (e : Event) → P s e → Q s e) → IfStep o P → IfStep o Q
if_step (Outcome.Next s e) P Q turn h = turn s e h
if_step (Outcome.Stopped why) P Q turn h = tt

module _ (image : ImageValue) (t : Timing) (s : State) (insn : Insn) (found : instruction_at image s.cpu.pc ≡ Some insn) where
  -- a fact that done and skipped instructions keep, and that marks and the cache don't matter to
  kept_by_step : (P : State → Type 0) → IfDone (effect image s insn.op) P → IfDone (outcome_of image s insn false) P
      → ((mid : State) → P mid → P (settle t s.cpu.pc mid)) → IfStep (step image t s) (λ next event. P next)
  kept_by_step P done skipped settled =
      let passes = condition_passes insn.condition s.cpu.flags in
      subst (λ (o : Outcome). IfStep o (λ next event. P next)) (sym (step_at image t s insn passes found refl))
      (if_step (charge t s insn passes (outcome_of image s insn passes)) _ _
      (λ next event m. subst P (sym m.2) (settled m.0 m.1)) (charged t s insn passes (outcome_of image s insn passes) P (by_done passes)))
    where
      by_done : (b : Bool) → IfDone (outcome_of image s insn b) P
      by_done true = done
      by_done false = skipped

  pub step_orderly : IsOp insn.op → IsOrderly s → IfStep (step image t s) (λ next event. IsOrderly next)
  step_orderly fits good =
      kept_by_step IsOrderly (stays_orderly image s good insn.op fits)
      (record { words = advanced_words s.cpu good.words; bytes = good.bytes })
      (λ mid m. record { words = record { each = m.words.each; all = m.words.all; pc = m.words.pc }; bytes = m.bytes })

  pub step_constants : HasConstants image s.memory → IfStep (step image t s) (λ next event. HasConstants image next.memory)
  step_constants has =
      kept_by_step (λ next. HasConstants image next.memory) (constants_stay image s insn.op has) has (λ mid m. m)
