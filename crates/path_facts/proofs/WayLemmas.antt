-- A step from a point without fault takes one of the point's ways.
use Rattle.std.proofs.Common.{◌≡◌, ℕ, zero, suc, ◌^◌, ◌<◌, Bool, true, false, cond, Contains, Option, Some, None, IfSome, Result}
use Rattle.std.proofs.Common.{Ok, Err, List, [], ◌∷◌, ◌++◌, length, slice_index_or, refl, sym, ap, ◌∙◌, subst, arith}
use Rattle.std.proofs.lemmas.Bool.{false≢true}
use Rattle.std.specs.List.{AllByRecursion}
use Rattle.elf32_image.specs.Parts.{ImageValue}
use Rattle.elf32_image.specs.Bytes.{is_code}
use Rattle.arm_isa.specs.declared.conditions.Condition.{Condition}
use Rattle.arm_isa.specs.declared.conditions.Condition.TheVariants as condition
use Rattle.arm_isa.specs.declared.conditions.Flags.{Flags}
use Rattle.arm_isa.specs.declared.instruction.Insn.{Insn}
use Rattle.arm_isa.specs.Conditions.{condition_passes, is_always}
use Rattle.arm_isa.specs.Writes.{is_return_form, writes_register}
use Rattle.fetch_timing.specs.declared.timing.Timing.{Timing}
use Rattle.control_flow.specs.declared.control.Fault.{Fault}
use Rattle.control_flow.specs.declared.control.Fault.TheVariants as fault
use Rattle.control_flow.specs.declared.instructions.FetchFault.TheVariants.{NoCode}
use Rattle.control_flow.specs.Instructions.{decoded, instruction_at}
use Rattle.control_flow.specs.Points.{Jump, Point, entry_point, is_recursive_call, jump_of, last_return, next_address, target, without_last}
use Rattle.control_flow.specs.Routes.{IsHistory, Place, Taken, Way}
use Rattle.control_flow.specs.Routes.Place.{At, Exit}
use Rattle.control_flow.specs.Ways.{done_place, fault_at, fault_in, fault_of, jump_place, next_place, return_place, ways_from}
use Rattle.control_flow.specs.Ways.{ways_of, ways_to}
use Rattle.arm_machine.specs.declared.events.Event.{Event}
use Rattle.arm_machine.specs.States.{State}
use Rattle.arm_machine.specs.Effects.{effect}
use Rattle.arm_machine.specs.Laws.{IfDone, IfStep}
use Rattle.arm_machine.specs.Steps.{Outcome, charge, step}
use Rattle.arm_machine.proofs.PcLemmas.{goes_on, jumps_to}
use Rattle.arm_machine.proofs.StayLemmas.{if_weaker}
use Rattle.arm_machine.proofs.StepLemmas.{charged, if_step, step_at}
use Rattle.path_facts.specs.Routes.{IsAt}

some_none : {A : Type 0} (a : A) → ◌≡◌ {A = Option A} (Some a) None → ⊥
some_none a h = cc

err_ok : (why : Fault) (place : Place Point) → ◌≡◌ {A = Result (Place Point) Fault} (Err why) (Ok place) → ⊥
err_ok why place h = cc

ok_same : (a b : Place Point) → ◌≡◌ {A = Result (Place Point) Fault} (Ok a) (Ok b) → a ≡ b
ok_same a b h = cc

-- a point without fault has an instruction, and its done way leads somewhere
module _ (image : ImageValue) (entry : ℕ) (p : Point) where
  pub record HasWay : Type 0 where
    pub insn : Insn
    pub found : instruction_at image p.address ≡ Some insn
    pub to : Place Point
    pub leads : done_place image entry p insn (jump_of insn.op) ≡ Ok to

  with_place : (insn : Insn) → instruction_at image p.address ≡ Some insn → (place : Result (Place Point) Fault)
      → done_place image entry p insn (jump_of insn.op) ≡ place → fault_in place ≡ None → HasWay
  with_place insn found (Ok to) is clear = record { insn = insn; found = found; to = to; leads = is }
  with_place insn found (Err why) is clear = absurd (some_none why clear)

  with_code : (code : Bool) (found : Option Insn) → instruction_at image p.address ≡ found
      → fault_of image entry p (cond code (decoded found) (Err NoCode)) ≡ None → HasWay
  with_code true (Some insn) is clear = with_place insn is (done_place image entry p insn (jump_of insn.op)) refl clear
  with_code true None is clear = absurd (some_none fault.Unknown clear)
  with_code false found is clear = absurd (some_none fault.Outside clear)

  pub has_way : fault_at image entry p ≡ None → HasWay
  has_way clear = with_code (is_code image p.address) (instruction_at image p.address) refl clear

-- return addresses are words
module _ (image : ImageValue) (entry : ℕ) where
  abbrev AreReturns : List ℕ → Type 0
  AreReturns returns = AllByRecursion (λ r. r < 2 ^ 32) returns

  pub last_small : (returns : List ℕ) → AreReturns returns → IfSome (last_return returns) (λ r. r < 2 ^ 32)
  last_small [] all = tt
  last_small (r ∷ []) all = all.0
  last_small (r ∷ q ∷ returns) all = last_small (q ∷ returns) all.1

  shorter : (returns : List ℕ) → AreReturns returns → AreReturns (without_last returns)
  shorter [] all = tt
  shorter (r ∷ []) all = tt
  shorter (r ∷ q ∷ returns) all = (all.0, shorter (q ∷ returns) all.1)

  longer : (returns : List ℕ) (r : ℕ) → r < 2 ^ 32 → AreReturns returns → AreReturns (returns ++ r ∷ [])
  longer [] r small all = (small, tt)
  longer (q ∷ returns) r small all = (all.0, longer returns r small all.1)

  abbrev IsSmall : Place Point → Type 0
  IsSmall (At p) = AreReturns p.returns
  IsSmall Exit = Unit {0}

  abbrev IfPlace : Result (Place Point) Fault → Type 0
  IfPlace (Ok place) = IsSmall place
  IfPlace (Err why) = Unit {0}

  place_if : (b : Bool) (x y : Result (Place Point) Fault) → IfPlace x → IfPlace y → IfPlace (cond b x y)
  place_if true x y h g = h
  place_if false x y h g = g

  small_if : (b : Bool) (x y : Place Point) → IsSmall x → IsSmall y → IsSmall (cond b x y)
  small_if true x y h g = h
  small_if false x y h g = g

  jump_small : (p : Point) (jump : Jump) → AreReturns p.returns → IsSmall (jump_place p jump)
  jump_small p jump all =
      small_if jump.link (At (record { returns = p.returns ++ next_address p.address ∷ []; address = target p.address jump.words }))
      (At (record p { address = target p.address jump.words })) (longer p.returns (next_address p.address) (omega arith) all) all

  back_small : (last : Option ℕ) (returns : List ℕ) → AreReturns returns → IsSmall (return_place last returns)
  back_small None returns all = tt
  back_small (Some r) returns all = shorter returns all

  done_small : (p : Point) (insn : Insn) (j : Option Jump) → AreReturns p.returns → IfPlace (done_place image entry p insn j)
  done_small p insn (Some jump) all =
      place_if (is_recursive_call image entry p jump) (Err fault.Recursive) (Ok (jump_place p jump)) tt (jump_small p jump all)
  done_small p insn None all =
      place_if (is_return_form insn) (Ok (return_place (last_return p.returns) p.returns)) _
      (back_small (last_return p.returns) p.returns all)
      (place_if (writes_register insn 15) (Err fault.Indirect) (Ok (next_place p)) tt all)

  abbrev AreSmall : List (Way Point) → Type 0
  AreSmall ways = AllByRecursion (λ way. IsSmall way.to) ways

  skipped_small : (always : Bool) (p : Point) → AreReturns p.returns
      → AreSmall (cond always [] (record { done = false; to = next_place p } ∷ []))
  skipped_small true p all = tt
  skipped_small false p all = (all, tt)

  ways_small : (p : Point) (insn : Insn) (place : Result (Place Point) Fault) → AreReturns p.returns → IfPlace place
      → AreSmall (ways_to p insn place)
  ways_small p insn (Ok place) all h = (h, skipped_small (is_always insn.condition) p all)
  ways_small p insn (Err why) all h = tt

  all_small : (p : Point) (found : Option Insn) → AreReturns p.returns → AreSmall (ways_of image entry p found)
  all_small p None all = tt
  all_small p (Some insn) all = ways_small p insn (done_place image entry p insn (jump_of insn.op)) all
      (done_small p insn (jump_of insn.op) all)

  contained : (xs : List (Way Point)) (x : Way Point) → AreSmall xs → (k : ℕ) → k < length xs → slice_index_or xs k x ≡ x → IsSmall x.to
  contained [] x all k small is = absurd (nothing k small)
    where
      nothing : (k : ℕ) → k < 0 → ⊥
      nothing k small = omega (arith, small)
  contained (y ∷ ys) x all zero small is = subst (λ (way : Way Point). IsSmall way.to) is all.0
  contained (y ∷ ys) x all (suc k) small is = contained ys x all.1 k (omega (arith, small)) is

  pub returns_small : (h : List (Taken Point)) (p : Point) → IsHistory (ways_from image entry) (entry_point entry) h p
      → AreReturns p.returns
  returns_small [] p is = subst (λ (q : Point). AreReturns q.returns) (sym is) tt
  returns_small (x ∷ h) p is =
      let before = returns_small h x.point is.0 in
      contained (ways_from image entry x.point) (record { done = x.done; to = At p })
      (all_small x.point (instruction_at image x.point.address) before) is.1.0 is.1.1 is.1.2

-- a jump leads to its target
jump_address : (home : ℕ) (p : Point) (jump : Jump) (pc : ℕ) → pc ≡ target p.address jump.words → IsAt home (jump_place p jump) pc
jump_address home p jump pc is = at jump.link
  where
    at : (link : Bool) → IsAt home (cond link (At (record {
      returns = p.returns ++ next_address p.address ∷ [];
      address = target p.address jump.words;
    })) (At (record p { address = target p.address jump.words }))) pc
    at true = is
    at false = is

-- what is always done is never skipped
not_always : (flags : Flags) (c : Condition) → condition_passes c flags ≡ false → is_always c ≡ false
not_always flags condition.Al fails = absurd (false≢true (sym fails))
not_always flags _ fails = refl

module _ (image : ImageValue) (t : Timing) (entry home : ℕ) (p : Point) (s : State) (insn : Insn) (here : s.cpu.pc ≡ p.address)
    (found : instruction_at image p.address ≡ Some insn) (returns : is_return_form insn ≡ true → IfDone (effect image s insn.op)
    (λ next. IsAt home (return_place (last_return p.returns) p.returns) next.cpu.pc)) where
  abbrev Leads : Place Point → Type 0
  Leads place = IfDone (effect image s insn.op) (λ next. IsAt home place next.cpu.pc)

  -- a done instruction goes where its way leads
  done_goes : (place : Place Point) → done_place image entry p insn (jump_of insn.op) ≡ Ok place → Leads place
  done_goes place is = by_jump (jump_of insn.op) refl is
    where
      by_fault : (jump : Jump) → jump_of insn.op ≡ Some jump → (b : Bool) → cond b (Err fault.Recursive) (Ok (jump_place p jump)) ≡ Ok place
          → Leads place
      by_fault jump jumps true e = absurd (err_ok fault.Recursive place e)
      by_fault jump jumps false e =
          if_weaker (effect image s insn.op) _ _ (λ next to.
          subst (λ (q : Place Point). IsAt home q next.cpu.pc) (ok_same (jump_place p jump) place e)
          (jump_address home p jump next.cpu.pc (to ∙ ap (λ (a : ℕ). target a jump.words) here)))
          (jumps_to image s insn.op jump jumps)

      by_write : (b : Bool) → writes_register insn 15 ≡ b → cond b (Err fault.Indirect) (Ok (next_place p)) ≡ Ok place → Leads place
      by_write true writes e = absurd (err_ok fault.Indirect place e)
      by_write false writes e =
          if_weaker (effect image s insn.op) _ _ (λ next on.
          subst (λ (q : Place Point). IsAt home q next.cpu.pc) (ok_same (next_place p) place e) (on writes ∙ ap next_address here))
          (goes_on image s insn.op)

      by_return : (b : Bool) → is_return_form insn ≡ b → cond b (Ok (return_place (last_return p.returns) p.returns))
          (cond (writes_register insn 15) (Err fault.Indirect) (Ok (next_place p))) ≡ Ok place → Leads place
      by_return true form e =
          if_weaker (effect image s insn.op) _ _ (λ next at. subst (λ (q : Place Point). IsAt home q next.cpu.pc) (ok_same _ place e) at)
          (returns form)
      by_return false form e = by_write (writes_register insn 15) refl e

      by_jump : (j : Option Jump) → jump_of insn.op ≡ j → done_place image entry p insn j ≡ Ok place → Leads place
      by_jump (Some jump) jumps is = by_fault jump jumps (is_recursive_call image entry p jump) is
      by_jump None plain is = by_return (is_return_form insn) refl is

  abbrev Goes : State → Event → Type 0
  Goes next event = (to : Place Point) × Contains (ways_from image entry p) (record { done = event.done; to = to })
      × IsAt home to next.cpu.pc

  way_done : (place : Place Point) → done_place image entry p insn (jump_of insn.op) ≡ Ok place
      → Contains (ways_from image entry p) (record { done = true; to = place })
  way_done place is =
      subst (λ (ws : List (Way Point)). Contains ws (record { done = true; to = place }))
      (sym (ap (ways_of image entry p) found ∙ ap (ways_to p insn) is)) (0, omega arith, refl)

  way_skipped : (place : Place Point) → done_place image entry p insn (jump_of insn.op) ≡ Ok place → is_always insn.condition ≡ false
      → Contains (ways_from image entry p) (record { done = false; to = next_place p })
  way_skipped place is some =
      subst (λ (ws : List (Way Point)). Contains ws (record { done = false; to = next_place p }))
      (sym (ap (ways_of image entry p) found ∙ ap (ways_to p insn) is
      ∙ ap (λ (b : Bool). record { done = true; to = place } ∷ cond b [] (record { done = false; to = next_place p } ∷ [])) some))
      (1, omega arith, refl)

  -- the step takes a way, and pc is where it leads
  pub goes : (place : Place Point) → done_place image entry p insn (jump_of insn.op) ≡ Ok place → IfStep (step image t s) Goes
  goes place is = by_done (condition_passes insn.condition s.cpu.flags) refl
    where
      by_done : (b : Bool) → condition_passes insn.condition s.cpu.flags ≡ b → IfStep (step image t s) Goes
      by_done true passes =
          subst (λ (o : Outcome). IfStep o Goes) (sym (step_at image t s insn true (ap (instruction_at image) here ∙ found) passes))
          (if_step (charge t s insn true (effect image s insn.op)) _ Goes (λ next event m. (
            place,
            subst (λ (b : Bool). Contains (ways_from image entry p) (record { done = b; to = place }))
                (sym (ap (λ (e : Event). e.done) m.3))
                (way_done place is),
            subst (λ (n : State). IsAt home place n.cpu.pc) (sym m.2) m.1,
          ))
          (charged t s insn true (effect image s insn.op) (λ mid. IsAt home place mid.cpu.pc) (done_goes place is)))
      by_done false fails =
          subst (λ (o : Outcome). IfStep o Goes) (sym (step_at image t s insn false (ap (instruction_at image) here ∙ found) fails))
          (next_place p, way_skipped place is (not_always s.cpu.flags insn.condition fails), ap next_address here)
