-- Two runs of one machine.
use Rattle.std.proofs.Common.{◌≡◌, ◌≢◌, ℕ, Option, Some, None, List, [], ◌∷◌, ◌++◌, map, refl, sym, ap, ◌∙◌, subst, append_assoc, append-nil}
use Rattle.std.specs.Option.{option_or}
use Rattle.arm_machine.specs.declared.events.Event.{Event}
use Rattle.arm_machine.specs.Machines.{MachineValue}
use Rattle.arm_machine.specs.States.{State}
use Rattle.arm_machine.specs.Steps.{Outcome}
use Rattle.arm_machine.specs.Steps.Outcome.{Next}
use Rattle.machine_probe.specs.declared.running.RunEnd.{RunEnd}
use Rattle.machine_probe.specs.declared.running.RunEnd.TheVariants as end
use Rattle.machine_probe.specs.Agreement.{AgreeOn}
use Rattle.machine_probe.specs.Weights.{Standing}
use Rattle.machine_probe.specs.ProbedRuns.{EndsBy, Goes, Task, after, end_after, end_before_step, end_by_step, task_of}

unlike : (o : Option RunEnd) (x : RunEnd) → o ≡ None → o ≡ Some x → ⊥
unlike o x none some = cc

none_on : (o : Option RunEnd) (by : Outcome) (next : State) (e : Event) (a : ℕ) (x : RunEnd) → o ≡ None → by ≡ Next next e → option_or o (end_by_step by a) ≡ Some x → ⊥
none_on o by next e a x none on ends =
    let nothing : option_or o (end_by_step by a) ≡ None =
    subst (λ (p : Option RunEnd). option_or p (end_by_step by a) ≡ None) (sym none)
    (subst (λ (b : Outcome). end_by_step b a ≡ None) (sym on) refl) in
    unlike (option_or o (end_by_step by a)) x nothing ends

-- a run that goes on from a state doesn't end there
goes_past : (k : Task) (before events : List Event) (s u : State) (e : Event) (x : RunEnd) → Goes k before s (e ∷ events) u → end_after k before s ≡ Some x → ⊥
goes_past k before events s u e x goes ends = none_on (end_before_step k before s) (k.step s) goes.1.0 e s.cpu.pc x goes.0 goes.1.1 ends

one_next : (n m : State) (e f : Event) → Next n e ≡ Next m f → (n ≡ m) × (e ≡ f)
one_next n m e f same = (cc, cc)

-- before and after nothing
ends_there : (k : Task) (before : List Event) (s u : State) (x : RunEnd) → u ≡ s → end_after k (before ++ []) u ≡ Some x → end_after k before s ≡ Some x
ends_there k before s u x same ends =
    subst (λ (v : State). end_after k before v ≡ Some x) same (subst (λ (es : List Event). end_after k es u ≡ Some x) (append-nil before) ends)

later_end : (k : Task) (before events : List Event) (e : Event) (u : State) (x : RunEnd) → end_after k (before ++ e ∷ events) u ≡ Some x → end_after k ((before ++ e ∷ []) ++ events) u ≡ Some x
later_end k before events e u x ends = subst (λ (es : List Event). end_after k es u ≡ Some x) (sym (append_assoc before (e ∷ []) events)) ends

longer : (e f : Event) (es fs : List Event) → e ≡ f → es ≡ fs → e ∷ es ≡ f ∷ fs
longer e f es fs same rest = cc

-- Runs from one state that end make the same events, and come to the same state.
same_events : (k : Task) (before es fs : List Event) (s u v : State) (x y : RunEnd) → Goes k before s es u → Goes k before s fs v → end_after k (before ++ es) u ≡ Some x → end_after k (before ++ fs) v ≡ Some y → (es ≡ fs) × (u ≡ v)
same_events k before [] [] s u v x y one other ends stops = (refl, one ∙ sym other)
same_events k before [] (f ∷ fs) s u v x y one other ends stops = absurd (goes_past k before fs s v f x other (ends_there k before s u x one ends))
same_events k before (e ∷ es) [] s u v x y one other ends stops = absurd (goes_past k before es s u e y one (ends_there k before s v y other stops))
same_events k before (e ∷ es) (f ∷ fs) s u v x y one other ends stops =
    let step = one_next one.1.0 other.1.0 e f (sym one.1.1 ∙ other.1.1) in
    let here : Goes k (before ++ e ∷ []) one.1.0 fs v =
    subst (λ (n : State). Goes k (before ++ e ∷ []) n fs v) (sym step.0)
    (subst (λ (g : Event). Goes k (before ++ g ∷ []) other.1.0 fs v) (sym step.1) other.1.2) in
    let there : end_after k (before ++ e ∷ fs) v ≡ Some y = subst (λ (g : Event). end_after k (before ++ g ∷ fs) v ≡ Some y) (sym step.1) stops in
    let rest = same_events k (before ++ e ∷ []) es fs one.1.0 u v x y one.1.2 here (later_end k before es e u x ends) (later_end k before fs e v y there) in
    (longer e f es fs step.1 rest.0, rest.1)

-- an end that isn't one for want of memory is the one that is due
due : (k : Task) (events : List Event) (s : State) (why : RunEnd) → why ≢ end.Memory → EndsBy k events s why → end_after k events s ≡ Some why
due k events s (end.Returned steps cycles) other ends = ends
due k events s (end.Stopped stop address) other ends = ends
due k events s (end.Halted probe) other ends = ends
due k events s end.Spent other ends = ends
due k events s end.Memory other ends = absurd (other refl)

one_end : (o p : Option RunEnd) (x y : RunEnd) → o ≡ p → o ≡ Some x → p ≡ Some y → x ≡ y
one_end o p x y same ends stops = cc

pub agree : (old : MachineValue) (steps : ℕ) (before : List Standing) → AgreeOn old steps before
agree old steps before new1 new2 now1 now2 end1 end2 events1 events2 ran1 ran2 other1 other2 =
    let k : Task = task_of old steps before in
    let ends : end_after k events1 new1.state ≡ Some end1 = due k events1 new1.state end1 other1 ran1.ends in
    let stops : end_after k events2 new2.state ≡ Some end2 = due k events2 new2.state end2 other2 ran2.ends in
    let same = same_events k [] events1 events2 old.state new1.state new2.state end1 end2 ran1.goes ran2.goes ends stops in
    let alike : end_after k events1 new1.state ≡ end_after k events2 new2.state =
    ap (λ (es : List Event). end_after k es new1.state) same.0 ∙ ap (λ (s : State). end_after k events2 s) same.1 in (
      one_end (end_after k events1 new1.state) (end_after k events2 new2.state) end1 end2 alike ends stops,
      ran1.tallies ∙ ap (λ (es : List Event). map (after es) before) same.0 ∙ sym ran2.tallies,
      ran1.machine ∙ ap (λ (s : State). record old { state = s }) same.1 ∙ sym ran2.machine,
    )
