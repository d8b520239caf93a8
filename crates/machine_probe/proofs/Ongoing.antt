-- How a run goes on, and how it ends.
use Rattle.std.proofs.Common.{◌≡◌, ℕ, ◌+◌, ◌*◌, ◌^◌, ◌<◌, ◌≤◌, ◌==◌, Bool, true, false, cond, Option, Some, None, List, [], ◌∷◌, ◌++◌, length, map, Ok, Err, refl, sym, ap, ◌∙◌, subst, eq-eqb, arith, append_assoc, append-nil}
use Rattle.std.specs.List.{AllByRecursion, position}
use Rattle.std.specs.Option.{option_or, option_map}
use Rattle.std.proofs.lemmas.Bool.{eqb-true, ne_eqb}
use Rattle.std.proofs.lemmas.Grind.{common_steps}
use Rattle.std.proofs.lemmas.List.Sums.{sum_by-cons, sum_by_push}
use Rattle.elf32_image.specs.Parts.{ImageValue}
use Rattle.fetch_timing.specs.declared.timing.Timing.{Timing}
use Rattle.arm_machine.specs.declared.events.Event.{Event}
use Rattle.arm_machine.specs.Machines.{MachineValue}
use Rattle.arm_machine.specs.Runs.{IfNext, Returns, RunsHome, Stepped}
use Rattle.arm_machine.specs.Starting.{home}
use Rattle.arm_machine.specs.States.{State}
use Rattle.arm_machine.specs.Steps.{Outcome, step}
use Rattle.arm_machine.specs.Steps.Outcome.{Next, Stopped}
use Rattle.machine_probe.specs.declared.running.RunEnd.{RunEnd}
use Rattle.machine_probe.specs.declared.running.RunEnd.TheVariants as end
use Rattle.machine_probe.specs.declared.rules.Weigh.TheVariants as weigh
use Rattle.machine_probe.specs.Weights.{AreReady, HaveRoom, Standing, is_over, seen}
use Rattle.machine_probe.specs.ProbedRuns.{Advances, EndsBy, Goes, IsReturningRun, Ran, Shows, Task, after, all_cycles, end_after, end_before_step, end_by_step, halting, task_of}
use Rattle.machine_probe.proofs.Tallies.{IsShort, after_next, after_none, short_push, small_after, sum_limit}

-- a run tries a step where no probe halts it, the machine hasn't returned, and steps are left
tries : (k : Task) (events : List Event) (s : State) → halting k.probes events ≡ None → (s.cpu.pc == home) ≡ false → (length events == k.steps) ≡ false → end_before_step k events s ≡ None
tries k events s halts back spent = simp (halts, back, spent)

end_halted : (k : Task) (events : List Event) (s : State) (place : ℕ) → halting k.probes events ≡ Some place → end_after k events s ≡ Some (end.Halted place)
end_halted k events s place halts = simp halts

end_returned : (k : Task) (events : List Event) (s : State) → halting k.probes events ≡ None → (s.cpu.pc == home) ≡ true → end_after k events s ≡ Some (end.Returned (length events) (all_cycles events))
end_returned k events s halts back = simp (halts, back)

end_spent : (k : Task) (events : List Event) (s : State) → halting k.probes events ≡ None → (s.cpu.pc == home) ≡ false → (length events == k.steps) ≡ true → end_after k events s ≡ Some end.Spent
end_spent k events s halts back spent = simp (halts, back, spent)

end_stopped : (k : Task) (events : List Event) (s : State) (stop : _) → halting k.probes events ≡ None → (s.cpu.pc == home) ≡ false → (length events == k.steps) ≡ false → k.step s ≡ Stopped stop → end_after k events s ≡ Some (end.Stopped stop s.cpu.pc)
end_stopped k events s stop halts back spent stops = simp (halts, back, spent, stops)

-- a step more
last_step : (k : Task) (before : List Event) (s u next : State) (e : Event) → u ≡ s → end_before_step k before u ≡ None → k.step u ≡ Next next e → (end_before_step k before s ≡ None) × ((x : State) × (k.step s ≡ Next x e) × (next ≡ x))
last_step k before s u next e same none on =
    subst (λ (v : State). (end_before_step k before v ≡ None) × ((x : State) × (k.step v ≡ Next x e) × (next ≡ x))) same (none, (next, on, refl))

goes_on : (k : Task) (before events : List Event) (s u next : State) (e : Event) → Goes k before s events u → end_before_step k (before ++ events) u ≡ None → k.step u ≡ Next next e → Goes k before s (events ++ e ∷ []) next
goes_on k before [] s u next e goes none on =
    last_step k before s u next e goes (subst (λ (es : List Event). end_before_step k es u ≡ None) (append-nil before) none) on
goes_on k before (x ∷ events) s u next e goes none on = (
  goes.0,
  (
    goes.1.0,
    goes.1.1,
    goes_on k (before ++ x ∷ []) events goes.1.0 u next e goes.1.2
        (subst (λ (es : List Event). end_before_step k es u ≡ None) (sym (append_assoc before (x ∷ []) events)) none) on,
  ),
)

-- a run is halted by its last event, if at all
halting_push : (probes : List Standing) (events : List Event) (e : Event) → halting probes (events ++ e ∷ []) ≡ position is_over (map (after (events ++ e ∷ [])) probes)
halting_push probes [] e = refl
halting_push probes (x ∷ events) e = refl

-- Where a run stands that has made some events: their number and cycles are known, and no probe halts it.
pub record IsUnderway (old now : MachineValue) (steps : ℕ) (before probes : List Standing) (events : List Event) (done spent : ℕ) : Type 0 where
  pub machine : now ≡ record old { state = now.state }
  pub goes : Goes (task_of old steps before) [] old.state events now.state
  pub tallies : probes ≡ map (after events) before
  pub unhalted : halting before events ≡ None
  pub many : length events ≡ done
  pub cycles : all_cycles events ≡ spent
  pub short : AllByRecursion IsShort events

pub begins : (m : MachineValue) (steps : ℕ) (probes : List Standing) → (events : List Event) × IsUnderway m m steps probes probes events 0 0
begins m steps probes = ([], record { machine = refl; goes = refl; tallies = after_none probes; unhalted = refl; many = refl; cycles = refl; short = tt })

-- The event of a step that is shown comes after the others.
record IsShown (old new : MachineValue) (steps : ℕ) (before probes : List Standing) (events : List Event) : Type 0 where
  machine : new ≡ record old { state = new.state }
  goes : Goes (task_of old steps before) [] old.state events new.state
  tallies : probes ≡ map (after events) before
  halting : halting before events ≡ position is_over probes

shown : (old now new : MachineValue) (steps : ℕ) (before probes later : List Standing) (events : List Event) (done spent : ℕ) (e : Event) → IsUnderway old now steps before probes events done spent → (now.state.cpu.pc == home) ≡ false → done < steps → Shows (step now.image now.timing now.state) now new probes later e → IsShown old new steps before later (events ++ e ∷ [])
shown old now new steps before probes later events done spent e so back left shows =
    let unspent : (length events == steps) ≡ false = ne_eqb (length events) steps (omega (arith, so.many)) in
    let next : step old.image old.timing now.state ≡ Next new.state e = subst (λ (m : MachineValue). step m.image m.timing now.state ≡ Next new.state e) so.machine shows.step in
    let counts : later ≡ map (after (events ++ e ∷ [])) before = shows.tallies ∙ ap (map (seen e)) so.tallies ∙ after_next events e before in
    record {
      machine = shows.machine ∙ ap (λ (m : MachineValue). record m { state = new.state }) so.machine;
      goes = goes_on (task_of old steps before) [] events old.state now.state new.state e so.goes (tries (task_of old steps before) events now.state so.unhalted back unspent) next;
      tallies = counts;
      halting = halting_push before events e ∙ ap (position is_over) (sym counts);
    }

-- the run goes on
pub goes_underway : (old now new : MachineValue) (steps : ℕ) (before probes later : List Standing) (events : List Event) (done spent cost : ℕ) → IsUnderway old now steps before probes events done spent → (now.state.cpu.pc == home) ≡ false → done < steps → Advances (step now.image now.timing now.state) now new probes later (Ok cost) → (es : List Event) × IsUnderway old new steps before later es (done + 1) (spent + cost)
goes_underway old now new steps before probes later events done spent cost so back left advances =
    let e : Event = advances.0 in
    let shows : Shows (step now.image now.timing now.state) now new probes later e = advances.1 in
    let next = shown old now new steps before probes later events done spent e so back left shows in (
      events ++ e ∷ [],
      record {
        machine = next.machine;
        goes = next.goes;
        tallies = next.tallies;
        unhalted = next.halting ∙ advances.3;
        many = let more : length (events ++ e ∷ []) ≡ length events + 1 = grind (arith, common_steps) in more ∙ ap (λ (n : ℕ). n + 1) so.many;
        cycles = sum_by_push (λ (x : Event). x.cycles) events e ∙ ap (λ (n : ℕ). n + e.cycles) so.cycles ∙ ap (λ (n : ℕ). spent + n) (sym advances.2);
        short = short_push events e so.short shows.limit;
      },
    )

-- the run stays where it is
ran_here : (old now : MachineValue) (steps : ℕ) (before probes : List Standing) (events : List Event) (done spent : ℕ) (end : RunEnd) → IsUnderway old now steps before probes events done spent → EndsBy (task_of old steps before) events now.state end → Ran old now steps before probes end events
ran_here old now steps before probes events done spent end so ends = record { machine = so.machine; goes = so.goes; tallies = so.tallies; ends = ends }

moved : (old now new : MachineValue) (steps : ℕ) (before probes later : List Standing) (events : List Event) (end : RunEnd) → new ≡ now → later ≡ probes → Ran old now steps before probes end events → Ran old new steps before later end events
moved old now new steps before probes later events end same still ran =
    subst (λ (m : MachineValue). Ran old m steps before later end events) (sym same)
    (subst (λ (ps : List Standing). Ran old now steps before ps end events) (sym still) ran)

-- the run ends by a step
pub ends_by_step : (old now new : MachineValue) (steps : ℕ) (before probes later : List Standing) (events : List Event) (done spent : ℕ) (why : RunEnd) → IsUnderway old now steps before probes events done spent → (now.state.cpu.pc == home) ≡ false → done < steps → Advances (step now.image now.timing now.state) now new probes later (Err why) → (es : List Event) × Ran old new steps before later why es
ends_by_step old now new steps before probes later events done spent (end.Halted place) so back left advances =
    let e : Event = advances.0 in
    let next = shown old now new steps before probes later events done spent e so back left advances.1 in (
      events ++ e ∷ [],
      record {
        machine = next.machine;
        goes = next.goes;
        tallies = next.tallies;
        ends = end_halted (task_of old steps before) (events ++ e ∷ []) new.state place (next.halting ∙ advances.2);
      },
    )
ends_by_step old now new steps before probes later events done spent (end.Stopped stop a) so back left advances =
    let unspent : (length events == steps) ≡ false = ne_eqb (length events) steps (omega (arith, so.many)) in
    let stops : step old.image old.timing now.state ≡ Stopped stop = subst (λ (m : MachineValue). step m.image m.timing now.state ≡ Stopped stop) so.machine advances.0 in
    let ends : end_after (task_of old steps before) events now.state ≡ Some (end.Stopped stop a) = end_stopped (task_of old steps before) events now.state stop so.unhalted back unspent stops ∙ ap (λ (n : ℕ). Some (end.Stopped stop n)) (sym advances.1) in
    (events, moved old now new steps before probes later events (end.Stopped stop a) advances.2 advances.3 (ran_here old now steps before probes events done spent (end.Stopped stop a) so ends))
ends_by_step old now new steps before probes later events done spent end.Memory so back left advances =
    let unspent : (length events == steps) ≡ false = ne_eqb (length events) steps (omega (arith, so.many)) in (
      events,
      moved old now new steps before probes later events end.Memory advances.0 advances.1
          (ran_here old now steps before probes events done spent end.Memory so (tries (task_of old steps before) events now.state so.unhalted back unspent)),
    )
ends_by_step old now new steps before probes later events done spent (end.Returned n c) so back left advances = absurd advances
ends_by_step old now new steps before probes later events done spent end.Spent so back left advances = absurd advances

not_none : (o : Option RunEnd) (r : RunEnd) → option_or o (Some r) ≡ None → ⊥
not_none None r is = cc
not_none (Some x) r is = cc

-- a run that tries a step isn't at home
away : (k : Task) (events : List Event) (s : State) → end_before_step k events s ≡ None → s.cpu.pc ≡ home → ⊥
away k events s none is =
    let test : (s.cpu.pc == home) ≡ true = eq-eqb s.cpu.pc home is in
    let r : RunEnd = end.Returned (length events) (all_cycles events) in
    let rest : Option RunEnd = cond (length events == k.steps) (Some end.Spent) None in
    not_none (option_map (λ place. end.Halted place) (halting k.probes events)) r
    (subst (λ (b : Bool). option_or (option_map (λ place. end.Halted place) (halting k.probes events)) (cond b (Some r) rest) ≡ None) test none)

-- events that lead home make a returning run
goes_home : (image : ImageValue) (t : Timing) (steps : ℕ) (probes : List Standing) (before events : List Event) (s u : State) → Goes (record { step = step image t; steps = steps; probes = probes }) before s events u → u.cpu.pc ≡ home → Returns image t home s (length events) (all_cycles events)
goes_home image t steps probes before [] s u goes is = (subst (λ (v : State). v.cpu.pc ≡ home) goes is, refl)
goes_home image t steps probes before (e ∷ events) s u goes is =
    let k : Task = record { step = step image t; steps = steps; probes = probes } in
    let rest = goes_home image t steps probes (before ++ e ∷ []) events goes.1.0 u goes.1.2 is in (
      away k before s goes.0,
      subst (λ (o : Outcome). IfNext o (λ next spent. (left : ℕ) × (all_cycles (e ∷ events) ≡ spent + left) × Returns image t home next (length events) left)) (sym goes.1.1)
          (all_cycles events, sum_by-cons (λ (x : Event). x.cycles) e events, rest),
    )

-- events that lead home are those of a returning run's list of steps
list_home : (image : ImageValue) (t : Timing) (steps : ℕ) (probes : List Standing) (before events : List Event) (s u : State)
    → Goes (record { step = step image t; steps = steps; probes = probes }) before s events u → u.cpu.pc ≡ home
    → (xs : List Stepped) × RunsHome image t home s xs × (map (λ x. x.event) xs ≡ events)
list_home image t steps probes before [] s u goes is = ([], subst (λ (v : State). v.cpu.pc ≡ home) goes is, refl)
list_home image t steps probes before (e ∷ events) s u goes is =
    let k : Task = record { step = step image t; steps = steps; probes = probes } in
    let rest = list_home image t steps probes (before ++ e ∷ []) events goes.1.0 u goes.1.2 is in (
      record { from = s; event = e } ∷ rest.0,
      (refl, away k before s goes.0, (goes.1.0, goes.1.1, rest.1)),
      ap (λ (es : List Event). e ∷ es) rest.2,
    )

returned_by : (h : Option ℕ) (b spent : Bool) (len cyc a : ℕ) (o : Outcome) (n c : ℕ) → option_or (option_or (option_map (λ place. end.Halted place) h) (cond b (Some (end.Returned len cyc)) (cond spent (Some end.Spent) None))) (end_by_step o a) ≡ Some (end.Returned n c) → (b ≡ true) × (len ≡ n) × (cyc ≡ c)
returned_by (Some place) b spent len cyc a o n c is = cc
returned_by None true spent len cyc a o n c is = (refl, cc, cc)
returned_by None false true len cyc a o n c is = cc
returned_by None false false len cyc a (Next s e) n c is = cc
returned_by None false false len cyc a (Stopped stop) n c is = cc

-- a run that has returned is a returning run
pub ran_returns : (old now : MachineValue) (steps : ℕ) (before probes : List Standing) (why : RunEnd) (events : List Event) → Ran old now steps before probes why events → IsReturningRun old why
ran_returns old now steps before probes (end.Returned n c) events ran =
    let k : Task = task_of old steps before in
    let by = returned_by (halting before events) (now.state.cpu.pc == home) (length events == steps) (length events) (all_cycles events) now.state.cpu.pc (k.step now.state) n c ran.ends in
    let back : now.state.cpu.pc ≡ home = eqb-true now.state.cpu.pc home by.0 in
    subst (λ (m : ℕ). Returns old.image old.timing home old.state m c) by.1
    (subst (λ (m : ℕ). Returns old.image old.timing home old.state (length events) m) by.2
    (goes_home old.image old.timing steps before [] events old.state now.state ran.goes back))
ran_returns old now steps before probes (end.Stopped stop a) events ran = tt
ran_returns old now steps before probes (end.Halted place) events ran = tt
ran_returns old now steps before probes end.Spent events ran = tt
ran_returns old now steps before probes end.Memory events ran = tt

-- the list of steps of a run that has returned
pub ran_lists : (old now : MachineValue) (steps n c : ℕ) (before probes : List Standing) (events : List Event)
    → Ran old now steps before probes (end.Returned n c) events
    → (xs : List Stepped) × RunsHome old.image old.timing home old.state xs × (map (λ x. x.event) xs ≡ events)
    × (length events ≡ n) × (all_cycles events ≡ c)
ran_lists old now steps n c before probes events ran =
    let k : Task = task_of old steps before in
    let by = returned_by (halting before events) (now.state.cpu.pc == home) (length events == steps) (length events)
    (all_cycles events) now.state.cpu.pc (k.step now.state) n c ran.ends in
    let list = list_home old.image old.timing steps before [] events old.state now.state ran.goes (eqb-true now.state.cpu.pc home by.0) in
    (list.0, list.1, list.2, by.1, by.2)

pub returned_now : (old now : MachineValue) (steps : ℕ) (before probes : List Standing) (events : List Event) (done spent : ℕ) → IsUnderway old now steps before probes events done spent → (now.state.cpu.pc == home) ≡ true → Ran old now steps before probes (end.Returned done spent) events
returned_now old now steps before probes events done spent so back =
    ran_here old now steps before probes events done spent (end.Returned done spent) so
    (end_returned (task_of old steps before) events now.state so.unhalted back ∙ ap (λ (n : ℕ). Some (end.Returned n (all_cycles events))) so.many ∙ ap (λ (n : ℕ). Some (end.Returned done n)) so.cycles)

-- the probes of a run can count one event more
pub room_underway : {B : Type 0} (at : B → Standing) (old now : MachineValue) (steps : ℕ) (xs ys : List B) (events : List Event) (done spent : ℕ) → IsUnderway old now steps (map at xs) (map at ys) events done spent → done < 2 ^ 64 → AreReady (map at xs) → HaveRoom (map at ys)
room_underway at old now steps xs ys events done spent so few ready = rw so.tallies (small_after events (map at xs) so.short (omega (arith, so.many)) ready)

pub as_many : {B : Type 0} (at : B → Standing) (old now : MachineValue) (steps : ℕ) (xs ys : List B) (events : List Event) (done spent : ℕ) → IsUnderway old now steps (map at xs) (map at ys) events done spent → length ys ≡ length xs
as_many at old now steps xs ys events done spent so = grind (arith, common_steps, ap length so.tallies)

pub few_cycles : (old now : MachineValue) (steps : ℕ) (before probes : List Standing) (events : List Event) (done spent : ℕ) → IsUnderway old now steps before probes events done spent → spent ≤ 18000000 * done
few_cycles old now steps before probes events done spent so =
    let sums : all_cycles events ≤ 18000000 * length events = sum_limit weigh.Cycles events so.short in
    omega (arith, sums, so.many, so.cycles)
