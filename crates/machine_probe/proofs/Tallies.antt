-- What probes have counted after some events.
use Rattle.std.proofs.Common.{◌≡◌, ℕ, ◌+◌, ◌*◌, ◌^◌, ◌<◌, ◌≤◌, Bool, true, false, cond, List, [], ◌∷◌, ◌++◌, length, map, refl, sym, add-zero, arith}
use Rattle.std.specs.List.{AllByRecursion, sum_by}
use Rattle.std.proofs.lemmas.List.Sums.{sum_by-cons, sum_by_push}
use Rattle.arm_machine.specs.declared.events.Event.{Event}
use Rattle.machine_probe.specs.declared.rules.Rule.{Rule}
use Rattle.machine_probe.specs.declared.rules.Weigh.{Weigh}
use Rattle.machine_probe.specs.declared.rules.Weigh.TheVariants as weigh
use Rattle.machine_probe.specs.Weights.{AreReady, Standing, is_of, seen, weight_by}
use Rattle.machine_probe.specs.ProbedRuns.{after}

-- an event costs no more cycles than a step may
abbrev pub IsShort : Event → Type 0
IsShort e = e.cycles ≤ 18000000

one_at_most : (b : Bool) → cond b 1 0 ≤ 18000000
one_at_most true = omega arith
one_at_most false = omega arith

weight_limit : (w : Weigh) (e : Event) → IsShort e → weight_by w e ≤ 18000000
weight_limit weigh.Steps e short = omega arith
weight_limit weigh.Misses e short = one_at_most e.miss
weight_limit weigh.Cycles e short = short
weight_limit (weigh.OfClass class) e short = one_at_most (is_of class e)

pub sum_limit : (w : Weigh) (events : List Event) → AllByRecursion IsShort events → sum_by (weight_by w) events ≤ 18000000 * length events
sum_limit w [] short = omega arith
sum_limit w (e ∷ events) short =
    let first = weight_limit w e short.0 in
    let rest = sum_limit w events short.1 in
    let whole : sum_by (weight_by w) (e ∷ events) ≡ weight_by w e + sum_by (weight_by w) events = sum_by-cons (weight_by w) e events in
    omega (arith, first, rest, whole)

-- an event more is as short as all before it
pub short_push : (events : List Event) (e : Event) → AllByRecursion IsShort events → IsShort e → AllByRecursion IsShort (events ++ e ∷ [])
short_push [] e short last = (last, tt)
short_push (x ∷ events) e short last = (short.0, short_push events e short.1 last)

standing_list : (r : Rule) (m n : ℕ) (ps qs : List Standing) → m ≡ n → ps ≡ qs → record { rule = r; tally = m } ∷ ps ≡ record { rule = r; tally = n } ∷ qs
standing_list r m n ps qs e f = cc

-- before the first event each probe stands where it was
pub after_none : (ps : List Standing) → ps ≡ map (after []) ps
after_none [] = refl
after_none (p ∷ ps) = standing_list p.rule p.tally (p.tally + 0) ps (map (after []) ps) (sym (add-zero p.tally)) (after_none ps)

-- and after one event more it has counted that too
pub after_next : (events : List Event) (e : Event) (ps : List Standing) → map (seen e) (map (after events) ps) ≡ map (after (events ++ e ∷ [])) ps
after_next events e [] = refl
after_next events e (p ∷ ps) =
    let w = weight_by p.rule.weigh in
    let more : sum_by w (events ++ e ∷ []) ≡ sum_by w events + w e = sum_by_push w events e in
    let sums : p.tally + sum_by w events + w e ≡ p.tally + sum_by w (events ++ e ∷ []) = omega (arith, more) in
    standing_list p.rule (p.tally + sum_by w events + w e) (p.tally + sum_by w (events ++ e ∷ []))
    (map (seen e) (map (after events) ps)) (map (after (events ++ e ∷ [])) ps) sums (after_next events e ps)

-- no tally grows too great in a run
pub small_after : (events : List Event) (ps : List Standing) → AllByRecursion IsShort events → length events < 2 ^ 64 → AreReady ps → AllByRecursion (λ p. p.tally < 2 ^ 127) (map (after events) ps)
small_after events [] short few small = tt
small_after events (p ∷ ps) short few small =
    let first : p.tally ≤ 2 ^ 126 = small.0 in
    let sums = sum_limit p.rule.weigh events short in
    (omega (arith, first, sums), small_after events ps short few small.1)
