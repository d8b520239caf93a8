-- The numbers of a timing file are within the limits of a timing.
use Rattle.std.proofs.Common.{◌∙◌, ap, ◌↔◌, length, ◌≡◌, ℕ, ◌^◌, ◌&&◌, ◌||◌, ◌≤◌, Bool, true, false, List, [], ◌∷◌, map, Option, Some, None, Result, option_map, option_and_then, if◌then◌else◌, refl, sym, subst, eqb, leb, arith, rules}
use Rattle.std.proofs.lemmas.Bool.{eq-eqb, eqb-true}
use Rattle.std.proofs.lemmas.Bool.Decides.{nat_tests}
use Rattle.std.specs.List.{AllByRecursion, list_all, list_any}
use Rattle.std.specs.Option.{ok_or}
use Rattle.std.specs.Result.{IfOk}
use Rattle.serde_json.specs.Data.{Data, Members}
use Rattle.serde_json.specs.Find.{as_object}
use Rattle.fetch_timing.specs.declared.timing.Timing.{Timing}
use Rattle.fetch_timing.specs.TimingFiles.{AreAllowed, Field, class_names, cycles, fields, is_field, names_of, number_at, numbers_at, numbers_of, one_of, timing_by, timing_in, way_counts}
use Rattle.fetch_timing.specs.Timings.{IsPowerOfTwo, IsWithinLimits}

tested_if : (allows : ℕ → Bool) (b : Bool) (m n : ℕ) → allows m ≡ b → (if b then Some m else None) ≡ Some n → allows n ≡ true
tested_if allows true m n h e = let same : m ≡ n = cc in subst (λ (k : ℕ). allows k ≡ true) same h
tested_if allows false m n h e = absurd (cc)

tested : (allows : ℕ → Bool) (o : Option ℕ) (n : ℕ) → option_and_then (λ m. if allows m then Some m else None) o ≡ Some n → allows n ≡ true
tested allows None n e = absurd (cc)
tested allows (Some m) n e = tested_if allows (allows m) m n refl e

-- the first number and the rest
parted : (o : Option ℕ) (rest : Option (List ℕ)) (ns : List ℕ) → option_and_then (λ n. option_map (λ ms. n ∷ ms) rest) o ≡ Some ns
    → (n : ℕ) × (ms : List ℕ) × (o ≡ Some n) × (rest ≡ Some ms) × (ns ≡ n ∷ ms)
parted None rest ns e = absurd (cc)
parted (Some n) None ns e = absurd (cc)
parted (Some n) (Some ms) ns e = (n, ms, refl, refl, let same : ns ≡ n ∷ ms = cc in same)

passes : (v : Data) (fs : List Field) (ns : List ℕ) → numbers_at v fs ≡ Some ns → AreAllowed fs ns
passes v [] [] e = tt
passes v [] (n ∷ ns) e = absurd (cc)
passes v (field ∷ fs) ns e =
    let p = parted (number_at v field) (numbers_at v fs) ns e in
    subst (AreAllowed (field ∷ fs)) (sym p.4) (tested field.allows _ p.0 p.2, passes v fs p.1 p.3)

power_if : (low high k n : ℕ) (b rest : Bool) → eqb n (2 ^ k) ≡ b → low ≤ k → k ≤ high → (rest ≡ true → IsPowerOfTwo low high n) → b || rest ≡ true → IsPowerOfTwo low high n
power_if low high k n true rest h least most others e = (k, least, most, eqb-true n (2 ^ k) h)
power_if low high k n false rest h least most others e = others e

power_among : (low high : ℕ) (ks : List ℕ) (n : ℕ) → AllByRecursion (λ k. (low ≤ k) × (k ≤ high)) ks → one_of (map (λ k. 2 ^ k) ks) n ≡ true → IsPowerOfTwo low high n
power_among low high [] n h e = absurd (cc)
power_among low high (k ∷ ks) n h e = power_if low high k n (eqb n (2 ^ k)) (one_of (map (λ i. 2 ^ i) ks) n) refl h.0.0 h.0.1 (power_among low high ks n h.1) e

between : (least greatest n : ℕ) → leb least n && leb n greatest ≡ true → (least ≤ n) × (n ≤ greatest)
between least greatest n e = grind (arith, nat_tests)

class_limits : (names : List (List ℕ)) (ns : List ℕ) → AreAllowed (map (λ name. record { name = name; allows = cycles }) names) ns → AllByRecursion (λ c. c ≤ 1000000) ns
class_limits [] [] p = tt
class_limits [] (n ∷ ns) p = absurd p
class_limits (name ∷ names) [] p = absurd p
class_limits (name ∷ names) (n ∷ ns) p = ((between 0 1000000 n p.0).1, class_limits names ns p.1)

set_bounds : AllByRecursion (λ k. (0 ≤ k) × (k ≤ 10)) (0 ∷ 1 ∷ 2 ∷ 3 ∷ 4 ∷ 5 ∷ 6 ∷ 7 ∷ 8 ∷ 9 ∷ 10 ∷ [])
set_bounds = search (rules)

line_bounds : AllByRecursion (λ k. (2 ≤ k) × (k ≤ 6)) (2 ∷ 3 ∷ 4 ∷ 5 ∷ 6 ∷ [])
line_bounds = search (rules)

within : (ns : List ℕ) → AreAllowed fields ns → IsWithinLimits (timing_by ns)
within [] p = absurd p
within (a ∷ []) p = absurd p.1
within (a ∷ b ∷ []) p = absurd p.1.1
within (a ∷ b ∷ c ∷ []) p = absurd p.1.1.1
within (a ∷ b ∷ c ∷ d ∷ []) p = absurd p.1.1.1.1
within (a ∷ b ∷ c ∷ d ∷ e ∷ []) p = absurd p.1.1.1.1.1
within (a ∷ b ∷ c ∷ d ∷ e ∷ f ∷ classes) p =
    let ways = between 1 16 b p.1.0 in
    record {
      sets = power_among 0 10 (0 ∷ 1 ∷ 2 ∷ 3 ∷ 4 ∷ 5 ∷ 6 ∷ 7 ∷ 8 ∷ 9 ∷ 10 ∷ []) a set_bounds p.0;
      some_way = ways.0;
      ways = ways.1;
      line = power_among 2 6 (2 ∷ 3 ∷ 4 ∷ 5 ∷ 6 ∷ []) c line_bounds p.1.1.0;
      miss = (between 0 1000000 d p.1.1.1.0).1;
      skipped = (between 0 1000000 e p.1.1.1.1.0).1;
      register = (between 0 1000000 f p.1.1.1.1.1.0).1;
      classes = class_limits class_names classes p.1.1.1.1.1.1;
    }

-- what an object gives is within the limits
mapped : (v : Data) (o : Option (List ℕ)) (t : Timing) → numbers_at v fields ≡ o → option_map timing_by o ≡ Some t → IsWithinLimits t
mapped v None t h e = absurd (cc)
mapped v (Some ns) t h e = let same : timing_by ns ≡ t = cc in subst IsWithinLimits same (within ns (passes v fields ns h))

if_known : (b : Bool) (v : Data) (t : Timing) → (if b then option_map timing_by (numbers_at v fields) else None) ≡ Some t → IsWithinLimits t
if_known false v t e = absurd (cc)
if_known true v t e = mapped v (numbers_at v fields) t refl e

if_object : (o : Option Members) (v : Data) (t : Timing)
    → option_and_then (λ ms. if list_all is_field (names_of ms) then option_map timing_by (numbers_at v fields) else None) o ≡ Some t → IsWithinLimits t
if_object None v t e = absurd (cc)
if_object (Some ms) v t e = if_known (list_all is_field (names_of ms)) v t e

pub limits_of_file : (v : Data) (t : Timing) → timing_in v ≡ Some t → IsWithinLimits t
limits_of_file v t e = if_object (as_object v) v t e

pub limits_if_ok : {E : Type 0} (v : Data) (o : Option Timing) (refusal : E) (r : Result Timing E) → o ≡ timing_in v → r ≡ ok_or o refusal → IfOk r (λ t. IsWithinLimits t)
limits_if_ok v None refusal r e f = rw f tt
limits_if_ok v (Some t) refusal r e f = rw f (limits_of_file v t (sym e))

-- and all within the limits are allowed
or_true : (a b : Bool) → b ≡ true → a || b ≡ true
or_true true b e = refl
or_true false b e = e

among_if : (b : Bool) (ks : List ℕ) (i k n : ℕ) → eqb k i ≡ b → b || list_any (λ j. eqb k j) ks ≡ true → n ≡ 2 ^ k
    → (list_any (λ j. eqb k j) ks ≡ true → n ≡ 2 ^ k → one_of (map (λ j. 2 ^ j) ks) n ≡ true) → one_of (map (λ j. 2 ^ j) (i ∷ ks)) n ≡ true
among_if true ks i k n h found e rest = ap (λ b. b || one_of (map (λ j. 2 ^ j) ks) n) (eq-eqb n (2 ^ i) (e ∙ ap (λ j. 2 ^ j) (eqb-true k i h)))
among_if false ks i k n h found e rest = or_true (eqb n (2 ^ i)) (one_of (map (λ j. 2 ^ j) ks) n) (rest found e)

among : (ks : List ℕ) (k n : ℕ) → list_any (λ i. eqb k i) ks ≡ true → n ≡ 2 ^ k → one_of (map (λ i. 2 ^ i) ks) n ≡ true
among [] k n h e = absurd (cc)
among (i ∷ ks) k n h e = among_if (eqb k i) ks i k n refl h e (among ks k n)

cycles_allowed : (n : ℕ) → n ≤ 1000000 → cycles n ≡ true
cycles_allowed n h = grind (arith, nat_tests)

class_allowed : (names : List (List ℕ)) (ns : List ℕ) → length ns ≡ length names → AllByRecursion (λ c. c ≤ 1000000) ns → AreAllowed (map (λ name. record { name = name; allows = cycles }) names) ns
class_allowed [] [] e h = tt
class_allowed [] (n ∷ ns) e h = absurd (omega arith)
class_allowed (name ∷ names) [] e h = absurd (omega arith)
class_allowed (name ∷ names) (n ∷ ns) e h = (cycles_allowed n h.0, class_allowed names ns (omega arith) h.1)

set_power : (k : ℕ) → k ≤ 10 → list_any (λ i. eqb k i) (0 ∷ 1 ∷ 2 ∷ 3 ∷ 4 ∷ 5 ∷ 6 ∷ 7 ∷ 8 ∷ 9 ∷ 10 ∷ []) ≡ true
set_power k h = grind (arith, nat_tests)

line_power : (k : ℕ) → 2 ≤ k → k ≤ 6 → list_any (λ i. eqb k i) (2 ∷ 3 ∷ 4 ∷ 5 ∷ 6 ∷ []) ≡ true
line_power k low high = grind (arith, nat_tests)

ways_allowed : (n : ℕ) → 1 ≤ n → n ≤ 16 → way_counts n ≡ true
ways_allowed n low high = grind (arith, nat_tests)

allowed : (t : Timing) → length t.classes ≡ 11 → IsWithinLimits t → AreAllowed fields (numbers_of t)
allowed t e w = (
  among (0 ∷ 1 ∷ 2 ∷ 3 ∷ 4 ∷ 5 ∷ 6 ∷ 7 ∷ 8 ∷ 9 ∷ 10 ∷ []) w.sets.0 t.sets (set_power w.sets.0 w.sets.2) w.sets.3,
  (
    ways_allowed t.ways w.some_way w.ways,
    (
      among (2 ∷ 3 ∷ 4 ∷ 5 ∷ 6 ∷ []) w.line.0 t.line (line_power w.line.0 w.line.1 w.line.2) w.line.3,
      (
        cycles_allowed t.miss w.miss,
        (
          cycles_allowed t.skipped w.skipped,
          (
            cycles_allowed t.register w.register,
            class_allowed class_names t.classes e w.classes,
          ),
        ),
      ),
    ),
  ),
)

pub allowed_within : (t : Timing) → length t.classes ≡ 11 → AreAllowed fields (numbers_of t) ↔ IsWithinLimits t
allowed_within t e = (within (numbers_of t), allowed t e)
