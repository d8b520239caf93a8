-- A run has one outcome, but for a want of memory.
use Rattle.std.proofs.Common.{◌≡◌, ◌≢◌, ℕ, Option, Some, None, List, refl, sym, ap, ◌∙◌}
use Rattle.arm_machine.specs.declared.start.StartRefusal.{StartRefusal}
use Rattle.arm_machine.specs.declared.start.StartRefusal.TheVariants as start
use Rattle.arm_machine.specs.Machines.{MachineValue}
use Rattle.arm_machine.specs.Starting.{bad_start}
use Rattle.machine_probe.specs.Agreement.{AgreeOn}
use Rattle.machine_probe.specs.declared.running.RunEnd.{RunEnd}
use Rattle.machine_probe.specs.declared.running.RunEnd.TheVariants as end
use Rattle.machine_probe.specs.Weights.{Standing}
use Rattle.function_runs.specs.declared.refusals.RunRefusal.{RunRefusal}
use Rattle.function_runs.specs.declared.refusals.RunRefusal.TheVariants as refusal
use Rattle.function_runs.specs.Agreement.{HasNotBoth, HasOneCause, HasOneOutcome, HasOneResult}
use Rattle.function_runs.specs.Causes.{HasEnd, IsBadStart, IsRefused, unstarted}
use Rattle.function_runs.specs.Results.{Ends, FunctionRun, IsResult, first_machine, tallies_of}

-- what came of a run: no start, or an end
data Outcome : Type 0 where
  Bad : (cause : StartRefusal) → Outcome
  Ended : (end : RunEnd) → Outcome

-- the refusal that says it, and none but for memory where it has returned
abbrev refusal_of : Outcome → RunRefusal
refusal_of (Bad cause) = unstarted cause
refusal_of (Ended (end.Returned steps cycles)) = refusal.Memory
refusal_of (Ended (end.Stopped stop address)) = refusal.Stopped stop address
refusal_of (Ended (end.Halted probe)) = refusal.Halted probe
refusal_of (Ended end.Spent) = refusal.Spent
refusal_of (Ended end.Memory) = refusal.Memory

abbrev Came : FunctionRun → Outcome → Type 0
Came run (Bad cause) = IsBadStart run cause
Came run (Ended e) = (e ≢ end.Memory) × HasEnd run e

returned_other : (steps cycles : ℕ) → end.Returned steps cycles ≢ end.Memory
returned_other steps cycles is = cc

stopped_other : (stop : _) (address : ℕ) → end.Stopped stop address ≢ end.Memory
stopped_other stop address is = cc

halted_other : (probe : ℕ) → end.Halted probe ≢ end.Memory
halted_other probe is = cc

spent_other : end.Spent ≢ end.Memory
spent_other is = cc

came_refused : (run : FunctionRun) (why : RunRefusal) → IsRefused run why → why ≢ refusal.Memory → (o : Outcome) × Came run o × (refusal_of o ≡ why)
came_refused run refusal.Memory so other = absurd (other refl)
came_refused run refusal.SpUnaligned so other = (Bad start.SpUnaligned, so, refl)
came_refused run refusal.SpOutOfRange so other = (Bad start.SpRange, so, refl)
came_refused run refusal.StackLoaded so other = (Bad start.StackLoaded, so, refl)
came_refused run refusal.ReturnLoaded so other = (Bad start.ReturnLoaded, so, refl)
came_refused run (refusal.Stopped stop address) so other = (Ended (end.Stopped stop address), (stopped_other stop address, so), refl)
came_refused run refusal.Spent so other = (Ended end.Spent, (spent_other, so), refl)
came_refused run (refusal.Halted probe) so other = (Ended (end.Halted probe), (halted_other probe, so), refl)

came_returned : (run : FunctionRun) (steps cycles : ℕ) (tallies : List ℕ) → IsResult run steps cycles tallies → Came run (Ended (end.Returned steps cycles))
came_returned run steps cycles tallies so = (returned_other steps cycles, (so.ends.0, so.ends.1))

abbrev pub Law : Type 0
Law = (old : MachineValue) (steps : ℕ) (before : List Standing) → AgreeOn old steps before

ends_alike : (run : FunctionRun) (end1 end2 : RunEnd) (now1 now2 : List Standing) → Law → end1 ≢ end.Memory → end2 ≢ end.Memory → Ends run end1 now1 → Ends run end2 now2 → (end1 ≡ end2) × (now1 ≡ now2)
ends_alike run end1 end2 now1 now2 law other1 other2 one two =
    let alike = law (first_machine run) run.setup.steps run.probes one.runs.0 two.runs.0 now1 now2 end1 end2 one.runs.1 two.runs.1 one.runs.2 two.runs.2 other1 other2 in
    (alike.0, alike.1)

one_cause : (o : Option StartRefusal) (c d : StartRefusal) → o ≡ Some c → o ≡ Some d → c ≡ d
one_cause o c d is also = cc

no_cause : (o : Option StartRefusal) (c : StartRefusal) → o ≡ Some c → o ≡ None → ⊥
no_cause o c is none = cc

one_outcome : (run : FunctionRun) (o p : Outcome) → Law → Came run o → Came run p → o ≡ p
one_outcome run (Bad c) (Bad d) law one two = ap Bad (one_cause (bad_start run.image run.setup.sp run.setup.stack) c d one two)
one_outcome run (Bad c) (Ended e) law one two = absurd (no_cause (bad_start run.image run.setup.sp run.setup.stack) c one two.1.1.starts)
one_outcome run (Ended e) (Bad c) law one two = absurd (no_cause (bad_start run.image run.setup.sp run.setup.stack) c two one.1.1.starts)
one_outcome run (Ended e) (Ended f) law one two = ap Ended (ends_alike run e f one.1.0 two.1.0 law one.0 two.0 one.1.1 two.1.1).0

same_numbers : (m n c d : ℕ) → end.Returned m c ≡ end.Returned n d → (m ≡ n) × (c ≡ d)
same_numbers m n c d is = (cc, cc)

one_result : (run : FunctionRun) → Law → HasOneResult run
one_result run law steps1 steps2 cycles1 cycles2 tallies1 tallies2 one two =
    let alike = ends_alike run (end.Returned steps1 cycles1) (end.Returned steps2 cycles2) one.ends.0 two.ends.0 law
    (returned_other steps1 cycles1) (returned_other steps2 cycles2) one.ends.1 two.ends.1 in
    let numbers = same_numbers steps1 steps2 cycles1 cycles2 alike.0 in
    (numbers.0, numbers.1, one.ends.2 ∙ ap tallies_of alike.1 ∙ sym two.ends.2)

not_both : (run : FunctionRun) → Law → HasNotBoth run
not_both run law steps cycles tallies why result so other =
    let o = came_refused run why so other in
    other (sym o.2 ∙ ap refusal_of (one_outcome run o.0 (Ended (end.Returned steps cycles)) law o.1 (came_returned run steps cycles tallies result)))

only_cause : (run : FunctionRun) → Law → HasOneCause run
only_cause run law why1 why2 so1 so2 other1 other2 =
    let o = came_refused run why1 so1 other1 in
    let p = came_refused run why2 so2 other2 in
    sym o.2 ∙ ap refusal_of (one_outcome run o.0 p.0 law o.1 p.1) ∙ p.2

pub outcome_alone : Law → (run : FunctionRun) → HasOneOutcome run
outcome_alone law run = record { result = one_result run law; exclusive = not_both run law; cause = only_cause run law }
