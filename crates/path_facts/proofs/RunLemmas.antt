-- A returning run whose steps take ways is a route, whatever holds at its points.
use Rattle.std.proofs.Common.{◌≡◌, ◌≢◌, ℕ, zero, suc, ◌+◌, Contains, List, [], ◌∷◌, refl, sym, ap, ◌∙◌, subst}
use Rattle.elf32_image.specs.Parts.{ImageValue}
use Rattle.fetch_timing.specs.declared.timing.Timing.{Timing}
use Rattle.control_flow.specs.Points.{Point, entry_point}
use Rattle.control_flow.specs.Routes.{IsHistory, Place, Taken}
use Rattle.control_flow.specs.Routes.Place.{At, Exit}
use Rattle.control_flow.specs.Ways.{ways_from}
use Rattle.arm_machine.specs.declared.events.Event.{Event}
use Rattle.arm_machine.specs.States.{State}
use Rattle.arm_machine.specs.Laws.{IfStep}
use Rattle.arm_machine.specs.Runs.{IfNext, Returns}
use Rattle.arm_machine.specs.Steps.{Outcome, step}
use Rattle.arm_machine.specs.Steps.Outcome.{Next, Stopped}
use Rattle.path_facts.specs.Routes.{IsRouteFrom, route_cycles, sets_after, way_cycles}

-- a step that a run takes
pub record IsMet (o : Outcome) (P : State → Event → Type 0) (Q : State → ℕ → Type 0) : Type 0 where
  pub next : State
  pub event : Event
  pub steps : o ≡ Next next event
  pub fact : P next event
  pub rest : Q next event.cycles

met : (o : Outcome) (P : State → Event → Type 0) (Q : State → ℕ → Type 0) → IfStep o P → IfNext o Q → IsMet o P Q
met (Next next event) P Q fact rest = record { next = next; event = event; steps = refl; fact = fact; rest = rest }
met (Stopped stop) P Q fact rest = absurd rest

sum_same : {a b c d : ℕ} → a ≡ b → c ≡ d → a + c ≡ b + d
sum_same p q = cc

abbrev pub taken : Point → Event → Taken Point
taken p event = record { point = p; done = event.done }

module _ (image : ImageValue) (t : Timing) (entry home : ℕ) (P : List (Taken Point) → Point → State → Type 0) where
  -- what holds where a way leads
  abbrev pub Arrives : List (Taken Point) → Place Point → State → Type 0
  Arrives h (At p) s = P h p s
  Arrives h Exit s = s.cpu.pc ≡ home

  -- a step from a point is one of its ways
  pub record IsWayTaken (h : List (Taken Point)) (p : Point) (s next : State) (event : Event) : Type 0 where
    pub to : Place Point
    pub way : Contains (ways_from image entry p) (record { done = event.done; to = to })
    pub arrives : Arrives (taken p event ∷ h) to next
    pub spent : event.cycles ≡ way_cycles image t s.sets (taken p event)
    pub sets : next.sets ≡ sets_after t s.sets (taken p event)

  abbrev Was : List (Taken Point) → Point → Type 0
  Was h p = IsHistory (ways_from image entry) (entry_point entry) h p

  abbrev Rest : ℕ → ℕ → State → ℕ → Type 0
  Rest n c next spent = (rest : ℕ) × (c ≡ spent + rest) × Returns image t home next n rest

  module _ (away : (h : List (Taken Point)) (p : Point) (s : State) → Was h p → P h p s → s.cpu.pc ≢ home)
      (goes : (h : List (Taken Point)) (p : Point) (s : State) → Was h p → P h p s → IfStep (step image t s) (IsWayTaken h p s)) where
    returned : (s : State) (n c : ℕ) → s.cpu.pc ≡ home → Returns image t home s n c → (n ≡ 0) × (c ≡ 0)
    returned s zero c there returns = (refl, returns.1)
    returned s (suc n) c there returns = absurd (returns.0 there)

    -- after the step the run goes on, or is over
    after_way : (h : List (Taken Point)) (p : Point) (s : State) (n c : ℕ) → Was h p → P h p s
        → ((more : List (Taken Point)) (q : Point) (next : State) (rest : ℕ) → Was more q → P more q next → Returns image t home next n rest
        → IsRouteFrom image t entry P more q next n rest)
        → (to : Place Point) (next : State) (event : Event) → step image t s ≡ Next next event
        → Contains (ways_from image entry p) (record { done = event.done; to = to }) → Arrives (taken p event ∷ h) to next
        → event.cycles ≡ way_cycles image t s.sets (taken p event) → next.sets ≡ sets_after t s.sets (taken p event)
        → (rest : ℕ) → c ≡ event.cycles + rest → Returns image t home next n rest → IsRouteFrom image t entry P h p s (suc n) c
    after_way h p s n c history holds again (At q) next event steps way there spent sets rest sum returns =
        let on = again (taken p event ∷ h) q next rest (history, way) there returns in
        record {
          route = taken p event ∷ on.route;
          starts = refl;
          is_route = (
            subst (λ (to : Place Point). Contains (ways_from image entry p) (record { done = event.done; to = to })) (sym on.starts) way,
            on.is_route,
          );
          steps = ap suc on.steps;
          cycles = sum ∙ sum_same spent (on.cycles ∙ ap (λ (k : List (List ℕ)). route_cycles image t k on.route) sets);
          states = (holds, (next, event, steps, refl, on.states));
        }
    after_way h p s n c history holds again Exit next event steps way there spent sets rest sum returns =
        let over = returned next n rest there returns in
        record {
          route = taken p event ∷ [];
          starts = refl;
          is_route = (way, tt);
          steps = ap suc (sym over.0);
          cycles = sum ∙ sum_same spent over.1;
          states = (holds, (next, event, steps, refl, tt));
        }

    pub run_route : (h : List (Taken Point)) (p : Point) (s : State) (n c : ℕ) → Was h p → P h p s → Returns image t home s n c
        → IsRouteFrom image t entry P h p s n c
    run_route h p s zero c history holds returns = absurd (away h p s history holds returns.0)
    run_route h p s (suc n) c history holds returns =
        let m = met (step image t s) (IsWayTaken h p s) (Rest n c) (goes h p s history holds) returns.1 in
        after_way h p s n c history holds (λ more q next rest. run_route more q next n rest) m.fact.to m.next m.event m.steps m.fact.way
        m.fact.arrives m.fact.spent m.fact.sets m.rest.0 m.rest.1 m.rest.2
