-- Each returning run from a start state is a route, along which the facts of the histories hold.
use Rattle.std.proofs.Common.{◌≡◌, ◌≢◌, ℕ, ◌+◌, ◌<◌, ◌^◌, Bool, true, false, cond, pos, Option, Some, None, List, [], ◌∷◌, ltb, slice_index}
use Rattle.std.proofs.Common.{Ok, refl, sym, ap, ◌∙◌, subst}
use Rattle.std.proofs.lemmas.Bool.{false≢true}
use Rattle.elf32_image.specs.Parts.{ImageValue}
use Rattle.arm_isa.specs.declared.instruction.Insn.{Insn}
use Rattle.arm_isa.specs.Conditions.{condition_passes}
use Rattle.fetch_timing.specs.declared.timing.Timing.{Timing}
use Rattle.fetch_timing.specs.Timings.{cost_of}
use Rattle.fetch_timing.specs.Caches.{after_fetch, line_of, penalty}
use Rattle.control_flow.specs.Instructions.{instruction_at}
use Rattle.control_flow.specs.Points.{Point, entry_point, jump_of, last_return}
use Rattle.control_flow.specs.Routes.{Place, Taken}
use Rattle.control_flow.specs.Routes.Place.{At, Exit}
use Rattle.control_flow.specs.Ways.{IsCollected, done_place, ways_from}
use Rattle.control_flow.proofs.WayLemmas.{history_walk}
use Rattle.arm_machine.specs.declared.events.Event.{Event}
use Rattle.arm_machine.specs.declared.start.RegisterValue.{RegisterValue}
use Rattle.arm_machine.specs.Effects.{effect}
use Rattle.arm_machine.specs.Laws.{IfDone, IfStep, Stays}
use Rattle.arm_machine.specs.Orderly.{HasConstants, IsOrderly}
use Rattle.arm_machine.specs.Runs.{Returns}
use Rattle.arm_machine.specs.Starts.{IsStart}
use Rattle.arm_machine.specs.States.{State}
use Rattle.arm_machine.specs.Steps.{Outcome, charge, outcome_of, step}
use Rattle.arm_machine.proofs.StayLemmas.{if_weaker, stays}
use Rattle.arm_machine.proofs.StepLemmas.{charged, if_step, step_at, step_constants}
use Rattle.path_facts.specs.Facts.{IsTrueOf}
use Rattle.path_facts.specs.Facts.Location.{Register, StackWord}
use Rattle.path_facts.specs.declared.origin.Origin.TheVariants.{AtStart}
use Rattle.path_facts.specs.Histories.{AreTrue, FactsHold, HasStack, HoldsAt, IsFollowed, IsHistoryOf, facts_after, facts_of, facts_through}
use Rattle.path_facts.specs.Histories.{start_facts}
use Rattle.path_facts.specs.Routes.{FollowsRoute, IsAt, IsRouteFrom, instruction_cost, way_cycles}
use Rattle.path_facts.proofs.NumberLemmas.{itself_plain}
use Rattle.path_facts.proofs.ReturnLemmas.{returns_home}
use Rattle.path_facts.proofs.RunLemmas.{Arrives, IsWayTaken, run_route, taken}
use Rattle.path_facts.proofs.StepLemmas.{decoded, step_holds}
use Rattle.path_facts.proofs.WayLemmas.{goes, has_way, last_small, returns_small}

step_both : (o : Outcome) (P Q : State → Event → Type 0) → IfStep o P → IfStep o Q → IfStep o (λ s e. P s e × Q s e)
step_both (Outcome.Next s e) P Q h g = (h, g)
step_both (Outcome.Stopped why) P Q h g = tt

-- what a step costs, and the cache after it
abbrev IsTimed : Timing → State → Insn → State → Event → Type 0
IsTimed t s insn next event =
    (event.cycles ≡ cost_of t insn event.done + penalty t s.sets (line_of t s.cpu.pc))
    × (next.sets ≡ after_fetch t s.sets (line_of t s.cpu.pc))

outcome_sets : (image : ImageValue) (s : State) (insn : Insn) (done : Bool) → IfDone (outcome_of image s insn done)
    (λ mid. mid.sets ≡ s.sets)
outcome_sets image s insn true = if_weaker (effect image s insn.op) (Stays insn.op s) _ (λ mid st. st.sets) (stays image s insn.op)
outcome_sets image s insn false = refl

timed : (image : ImageValue) (t : Timing) (s : State) (insn : Insn) → instruction_at image s.cpu.pc ≡ Some insn
    → IfStep (step image t s) (IsTimed t s insn)
timed image t s insn found =
    let done = condition_passes insn.condition s.cpu.flags in
    subst (λ (o : Outcome). IfStep o (IsTimed t s insn)) (sym (step_at image t s insn done found refl))
    (if_step (charge t s insn done (outcome_of image s insn done)) _ (IsTimed t s insn) (λ next event m. (
      subst (λ (e : Event). e.cycles ≡ cost_of t insn e.done + penalty t s.sets (line_of t s.cpu.pc)) (sym m.3) refl,
      ap (λ (n : State). n.sets) m.2 ∙ ap (λ (k : List (List ℕ)). after_fetch t k (line_of t s.cpu.pc)) m.1,
    ))
    (charged t s insn done (outcome_of image s insn done) (λ mid. mid.sets ≡ s.sets) (outcome_sets image s insn done)))

module _ (image : ImageValue) (t : Timing) (entry stack : ℕ) (start : List ℕ) (has : HasStack start stack)
    (home_word : slice_index start 14 < 2 ^ 32) (followed : IsFollowed image entry stack) where
  abbrev home : ℕ
  home = slice_index start 14

  abbrev P : List (Taken Point) → Point → State → Type 0
  P = HoldsAt image stack start

  arrives : (h : List (Taken Point)) (to : Place Point) (next : State) → IsAt home to next.cpu.pc
      → FactsHold start (facts_of image stack h) next → HasConstants image next.memory → Arrives image t entry home P h to next
  arrives h (At q) next at facts constants = record { at_point = at; facts = facts; constants = constants }
  arrives h Exit next at facts constants = at

  -- the facts after a way are those of the longer history
  facts_on : (h : List (Taken Point)) (p : Point) (a : ℕ) (insn : Insn) → instruction_at image p.address ≡ Some insn → a ≡ p.address
      → (next : State) (event : Event) → FactsHold start (facts_after image stack a insn.op event.done (facts_of image stack h)) next
      → FactsHold start (facts_of image stack (taken p event ∷ h)) next
  facts_on h p a insn found here next event facts =
      subst (λ (o : Option Insn). FactsHold start (facts_through image stack p.address o event.done (facts_of image stack h)) next)
      (sym found)
      (subst (λ (b : ℕ). FactsHold start (facts_after image stack b insn.op event.done (facts_of image stack h)) next) here facts)

  way_cost : (p : Point) (a : ℕ) (insn : Insn) (done : Bool) (sets : List (List ℕ)) → instruction_at image p.address ≡ Some insn → a
      ≡ p.address
      → cost_of t insn done + penalty t sets (line_of t a) ≡ way_cycles image t sets (record { point = p; done = done })
  way_cost p a insn done sets found here =
      ap (λ (o : Option Insn). instruction_cost t done o + penalty t sets (line_of t a)) (sym found)
      ∙ ap (λ (b : ℕ). instruction_cost t done (instruction_at image p.address) + penalty t sets (line_of t b)) here

  step_taken : (h : List (Taken Point)) (p : Point) (s : State) (insn : Insn) (to : Place Point) → IsHistoryOf image entry h p
      → HoldsAt image stack start h p s → instruction_at image p.address ≡ Some insn
      → done_place image entry p insn (jump_of insn.op) ≡ Ok to → IfStep (step image t s) (IsWayTaken image t entry home P h p s)
  step_taken h p s insn to history holds found leads =
      let there : instruction_at image s.cpu.pc ≡ Some insn = ap (instruction_at image) holds.at_point ∙ found in
      let sure = decoded image p.address insn found in
      if_step (step image t s) _ (IsWayTaken image t entry home P h p s) (λ next event m. record {
        to = m.0.0;
        way = m.0.1;
        arrives =
            arrives (taken p event ∷ h) m.0.0 next m.0.2 (facts_on h p s.cpu.pc insn found holds.at_point next event m.1.0.0) m.1.0.1;
        spent = m.1.1.0 ∙ way_cost p s.cpu.pc insn event.done s.sets found holds.at_point;
        sets = m.1.1.1 ∙ ap (λ (a : ℕ). after_fetch t s.sets (line_of t a)) holds.at_point;
      })
      (step_both (step image t s) _ _
      (goes image t entry home p s insn holds.at_point found (λ form.
      returns_home start stack has home_word image (facts_of image stack h) s insn.op (last_return p.returns) p.returns sure.0 sure.1 form
      holds.facts (last_small image entry p.returns (returns_small image entry h p history)) (followed.returns h p insn history found form))
      to leads)
      (step_both (step image t s) _ (IsTimed t s insn)
      (step_both (step image t s) _ (λ next event. HasConstants image next.memory)
      (step_holds start stack has image t (facts_of image stack h) s insn there holds.constants holds.facts)
      (step_constants image t s insn there holds.constants))
      (timed image t s insn there)))

  steps_on : (h : List (Taken Point)) (p : Point) (s : State) → IsHistoryOf image entry h p → HoldsAt image stack start h p s
      → IfStep (step image t s) (IsWayTaken image t entry home P h p s)
  steps_on h p s history holds =
      let way = has_way image entry p (followed.no_fault p (history_walk (ways_from image entry) (entry_point entry) h p history)) in
      step_taken h p s way.insn way.to history holds way.found way.leads

  pub runs_are_routes : ((p : Point) → IsCollected image entry p → p.address ≢ slice_index start 14) → (s : State) (n c : ℕ)
      → HoldsAt image stack start [] (entry_point entry) s → Returns image t (slice_index start 14) s n c
      → IsRouteFrom image t entry (HoldsAt image stack start) [] (entry_point entry) s n c
  runs_are_routes away s n c holds returns =
      run_route image t entry home P (λ h p s history at there.
      away p (history_walk (ways_from image entry) (entry_point entry) h p history) (sym at.at_point ∙ there)) steps_on []
      (entry_point entry) s n c refl holds returns

-- the facts of the start
pub start_holds : (s : State) → IsOrderly s → FactsHold s.cpu.registers start_facts s
start_holds s good = record { values = of_location; marks = λ k on. absurd (false≢true on); orderly = good }
  where
    at : (r : ℕ) (b : Bool) → IsTrueOf s.cpu.registers (cond b (Some (record { origin = AtStart r; constant = pos 0 })) None)
        (Some (slice_index s.cpu.registers r))
    at r true = itself_plain (slice_index s.cpu.registers r) (good.words.each r)
    at r false = tt

    of_location : AreTrue s.cpu.registers start_facts s
    of_location (Register r) = at r (ltb r 15)
    of_location (StackWord k) = tt

module _ (image : ImageValue) (t : Timing) (entry stack : ℕ) (numbers : List RegisterValue) (s : State) (entry_word : entry < 2 ^ 32)
    (small : stack < 2 ^ 31) (start : IsStart image t entry stack numbers s) where
  has_stack : HasStack s.cpu.registers stack
  has_stack = record {
    word = start.words 13;
    aligned = start.aligned;
    below = start.room_below;
    above = start.room_above;
    small = small;
  }

  pub start_holds_at : HoldsAt image stack s.cpu.registers [] (entry_point entry) s
  start_holds_at = record {
    at_point = start.at_entry;
    facts = start_holds s (record {
      words = record {
        each = start.words;
        all = start.all_registers;
        pc = subst (λ (a : ℕ). a < 2 ^ 32) (sym start.at_entry) entry_word;
      };
      bytes = start.bytes;
    });
    constants = start.constants;
  }

  pub follows : IsFollowed image entry stack → (n c : ℕ) → Returns image t (slice_index s.cpu.registers 14) s n c
      → FollowsRoute image t entry stack s n c
  follows followed n c returns =
      runs_are_routes image t entry stack s.cpu.registers has_stack (start.words 14) followed start.away s n c start_holds_at returns
