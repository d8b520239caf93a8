-- What a way costs at most: an instruction is skipped only under a condition.
use Rattle.std.proofs.Common.{◌≡◌, ℕ, ◌≤◌, inl, inr, Bool, true, false, if◌then◌else◌, max, Option, Some, None, List}
use Rattle.std.proofs.Common.{[], ◌∷◌, sym, ap, ◌∙◌, refl, arith}
use Rattle.std.specs.Prelude.{Contains, Result, Ok, Err}
use Rattle.std.specs.List.{AllByRecursion}
use Rattle.std.proofs.lemmas.Bool.{false≢true}
use Rattle.elf32_image.specs.Parts.{ImageValue}
use Rattle.arm_isa.specs.declared.instruction.Insn.{Insn}
use Rattle.arm_isa.specs.Conditions.{is_always}
use Rattle.fetch_timing.specs.declared.timing.Timing.{Timing}
use Rattle.fetch_timing.specs.Timings.{cost_of}
use Rattle.control_flow.specs.declared.control.Fault.{Fault}
use Rattle.control_flow.specs.Instructions.{instruction_at}
use Rattle.control_flow.specs.Points.{Point, jump_of}
use Rattle.control_flow.specs.Routes.{IsRoute, Place, Taken, Way, place_of}
use Rattle.control_flow.specs.Ways.{done_place, next_place, skipped_ways, ways_from, ways_of, ways_to}
use Rattle.function_points.proofs.MemberLemmas.{first_or_rest, in_none}
use Rattle.path_facts.specs.Routes.{instruction_cost}
use Rattle.cycle_bounds.specs.Functions.{cost_at, most_at, most_of}

most_cost : (t : Timing) (insn : Insn) (done always : Bool) → (done ≡ false → always ≡ false)
    → cost_of t insn done ≤ (if always then cost_of t insn true else max (cost_of t insn true) (cost_of t insn false))
most_cost t insn true true h = omega arith
most_cost t insn true false h = omega arith
most_cost t insn false true h = absurd (false≢true (sym (h refl)))
most_cost t insn false false h = omega arith

skipped_in : (p : Point) (w : Way Point) (b : Bool)
    → Contains (if b then [] else record { done = false; to = next_place p } ∷ []) w → b ≡ false
skipped_in p w true n = absurd (in_none w n)
skipped_in p w false n = refl

skipped_under : (p : Point) (insn : Insn) (to : Result (Place Point) Fault) (w : Way Point)
    → Contains (ways_to p insn to) w → w.done ≡ false → is_always insn.condition ≡ false
skipped_under p insn (Err fault) w i f = absurd (in_none w i)
skipped_under p insn (Ok to) w i f =
    elim (first_or_rest (record { done = true; to = to }) w (skipped_ways p insn) i) as
    (λ _. is_always insn.condition ≡ false) [
      | inl e ↦ absurd (false≢true (sym f ∙ ap (λ (v : Way Point). v.done) (sym e)))
      | inr n ↦ skipped_in p w (is_always insn.condition) n
    ]

way_cost : (image : ImageValue) (t : Timing) (entry : ℕ) (p : Point) (w : Way Point) (o : Option Insn)
    → Contains (ways_of image entry p o) w → instruction_cost t w.done o ≤ most_of t o
way_cost image t entry p w None i = omega arith
way_cost image t entry p w (Some insn) i =
    most_cost t insn w.done (is_always insn.condition)
    (skipped_under p insn (done_place image entry p insn (jump_of insn.op)) w i)

abbrev pub IsCheap : ImageValue → Timing → Taken Point → Type 0
IsCheap image t x = cost_at image t x.point x.done ≤ most_at image t x.point

pub route_costs : (image : ImageValue) (t : Timing) (entry : ℕ) (xs : List (Taken Point))
    → IsRoute (ways_from image entry) xs → AllByRecursion (IsCheap image t) xs
route_costs image t entry [] r = tt
route_costs image t entry (x ∷ xs) r = (
  way_cost image t entry x.point (record { done = x.done; to = place_of xs }) (instruction_at image x.point.address) r.0,
  route_costs image t entry xs r.1,
)
