-- The reduction ends, in one state.
use Rattle.std.proofs.Common.{◌≡◌, refl, sym, ap, ◌∙◌, subst, ℕ, zero, suc, ◌+◌, ◌<◌, ◌≤◌, ◌⊎◌, inl, inr, Bool, true, false, arith}
use Rattle.std.specs.Prelude.{◌≢◌, ◌&&◌, ◌||◌, not, ◌==◌, if◌then◌else◌, Option, Some, None, IfSome, is_some}
use Rattle.std.proofs.lemmas.Bool.{cases_eq, cases_Bool, and_parts, eqb-true, eq-eqb, ne_eqb, cond-true, cond-false, false≢true}
use Rattle.graph_search.specs.Flows.{Flow, edge}
use Rattle.graph_reduction.specs.Reduction.{State, start, Giver, Nobody, Only, Several, with_giver, giver_below, other_than, first_below}
use Rattle.graph_reduction.specs.Reduction.{is_open, fits_one, close, giver_of, fits_two, put_into, put_some, second_rule, first_rule, step}
use Rattle.graph_reduction.specs.Reduction.{and_on, reduced, IsReduced}
use Rattle.graph_reduction.specs.Advances.{Advanced}
use Rattle.graph_reduction.proofs.RefitLemmas.{moved, moved_there, not_moved}
use Rattle.graph_reduction.proofs.ReductionLemmas.{least_passes, with_only, other_only, option_same}

-- ---- one state

stays_put : (flow : Flow) (s : State) → step flow s ≡ None → (n : ℕ) → reduced flow n s ≡ s
stays_put flow s e zero = refl
stays_put flow s e (suc n) = ap (and_on (reduced flow n) s) e

ends_agree_at : (flow : Flow) (n m : ℕ) (s : State) (o : Option State) → step flow s ≡ o
    → ((t : State) → step flow (reduced flow n t) ≡ None → step flow (reduced flow m t) ≡ None → reduced flow n t ≡ reduced flow m t)
    → step flow (and_on (reduced flow n) s o) ≡ None → step flow (and_on (reduced flow m) s o) ≡ None → and_on (reduced flow n) s o ≡ and_on
    (reduced flow m) s o
ends_agree_at flow n m s None is rest a b = refl
ends_agree_at flow n m s (Some t) is rest a b = rest t a b

pub ends_agree : (flow : Flow) (n m : ℕ) (s : State) → step flow (reduced flow n s) ≡ None → step flow (reduced flow m s) ≡ None
    → reduced flow n s ≡ reduced flow m s
ends_agree flow zero m s a b = sym (stays_put flow s a m)
ends_agree flow (suc n) zero s a b = stays_put flow s b (suc n)
ends_agree flow (suc n) (suc m) s a b = ends_agree_at flow n m s (step flow s) refl (ends_agree flow n m) a b

pub reduced_agree : (flow : Flow) (s t : State) → IsReduced flow s → IsReduced flow t → s ≡ t
reduced_agree flow s t a b =
    a.1 ∙ (ends_agree flow a.0 b.0 start (subst (λ (r : State). step flow r ≡ None) a.1 a.2)
    (subst (λ (r : State). step flow r ≡ None) b.1 b.2) ∙ sym b.1)

-- ---- counts

abbrev pub count_below : (ℕ → Bool) → ℕ → ℕ
count_below P zero = 0
count_below P (suc n) = (if P n then 1 else 0) + count_below P n

one_le : (p q : Bool) → (p ≡ true → q ≡ true) → (if p then 1 else 0) ≤ (if q then 1 else 0)
one_le true true h = omega arith
one_le true false h = absurd (false≢true (h refl))
one_le false true h = omega arith
one_le false false h = omega arith

count_le : (P Q : ℕ → Bool) (n : ℕ) → ((u : ℕ) → P u ≡ true → Q u ≡ true) → count_below P n ≤ count_below Q n
count_le P Q zero h = omega arith
count_le P Q (suc n) h = let r = count_le P Q n h in let s = one_le (P n) (Q n) (h n) in omega (arith, r, s)

below_next : (u n : ℕ) → u < suc n → (u ≡ n) ⊎ (u < n)
below_next u n h = grind arith

one_less : (p q : Bool) → p ≡ false → q ≡ true → (if p then 1 else 0) < (if q then 1 else 0)
one_less true q e f = absurd (cc)
one_less false true e f = omega arith
one_less false false e f = absurd (cc)

pub count_less : (P Q : ℕ → Bool) (u n : ℕ) → ((w : ℕ) → P w ≡ true → Q w ≡ true) → u < n → P u ≡ false → Q u ≡ true
    → count_below P n < count_below Q n
count_less P Q u zero h l p q = absurd (omega (arith, l))
count_less P Q u (suc n) h l p q =
    elim (below_next u n l) as (λ _. count_below P (suc n) < count_below Q (suc n)) [
      | inl e ↦
          let r = count_le P Q n h in
          let s = one_less (P n) (Q n) (subst (λ y. P y ≡ false) e p) (subst (λ y. Q y ≡ true) e q) in
          omega (arith, r, s)
      | inr m ↦
          let r = count_less P Q u n h m p q in
          let s = one_le (P n) (Q n) (h n) in
          omega (arith, r, s)
    ]

abbrev open_below : Flow → State → ℕ → ℕ
open_below flow s zero = 0
open_below flow s (suc h) = count_below (λ u. is_open flow s u h) flow.count + open_below flow s h

-- nodes, and edges that don't close
abbrev pub measure : Flow → State → ℕ
measure flow s = count_below (λ x. s.head x == x) flow.count + open_below flow s flow.count

open_le : (flow : Flow) (s t : State) (n : ℕ) → ((u h : ℕ) → is_open flow s u h ≡ true → is_open flow t u h ≡ true)
    → open_below flow s n ≤ open_below flow t n
open_le flow s t zero h = omega arith
open_le flow s t (suc n) h =
    let r = open_le flow s t n h in
    let c = count_le (λ u. is_open flow s u n) (λ u. is_open flow t u n) flow.count (λ u. h u n) in
    omega (arith, r, c)

open_less : (flow : Flow) (s t : State) (u h n : ℕ) → ((u h : ℕ) → is_open flow s u h ≡ true → is_open flow t u h ≡ true)
    → u < flow.count → h < n → is_open flow s u h ≡ false → is_open flow t u h ≡ true → open_below flow s n < open_below flow t n
open_less flow s t u h zero le a b c d = absurd (omega (arith, b))
open_less flow s t u h (suc n) le a b c d =
    elim (below_next h n b) as (λ _. open_below flow s (suc n) < open_below flow t (suc n)) [
      | inl e ↦
          let r = open_le flow s t n le in
          let k = count_less (λ w. is_open flow s w n) (λ w. is_open flow t w n) u flow.count (λ w. le w n) a
          (subst (λ y. is_open flow s u y ≡ false) e c) (subst (λ y. is_open flow t u y ≡ true) e d) in
          omega (arith, r, k)
      | inr m ↦
          let r = open_less flow s t u h n le a m c d in
          let k = count_le (λ w. is_open flow s w n) (λ w. is_open flow t w n) flow.count (λ w. le w n) in
          omega (arith, r, k)
    ]

-- ---- each step lowers the measure

found_one : (P : ℕ → Bool) (n : ℕ) (o : Option ℕ) → is_some o ≡ true → IfSome o (λ k. (P k ≡ true) × (k < n)) → (k : ℕ) × (P k ≡ true) ×
    (k < n)
found_one P n None e h = absurd (false≢true e)
found_one P n (Some k) e h = (k, h.0, h.1)

no_longer : (e c d : Bool) → d ≡ true → (e && not (c || d)) ≡ false
no_longer true true d h = refl
no_longer true false d h = ap not h
no_longer false c d h = refl

was_open : (e c d : Bool) → (e && not (c || d)) ≡ true → (e && not c) ≡ true
was_open true true d h = h
was_open true false d h = refl
was_open false c d h = h

three_true : (p q r : Bool) → p ≡ true → q ≡ true → r ≡ true → (p && q && r) ≡ true
three_true p q r e f g = cc

close_less : (flow : Flow) (s : State) (h : ℕ) → h < flow.count → fits_one flow s h ≡ true → measure flow (close flow h s) < measure flow s
close_less flow s h l fits =
    let P = λ (u : ℕ). (s.head u == h) && is_open flow s u h in
    let f = found_one P flow.count (first_below P flow.count) (and_parts (s.head h == h) (is_some (first_below P flow.count)) fits).1
    (least_passes P flow.count) in
    let p = and_parts (s.head f.0 == h) (is_open flow s f.0 h) f.1 in
    let e = and_parts (edge flow f.0 h) (not (s.closed f.0 h)) p.1 in
    let less = open_less flow (close flow h s) s f.0 h flow.count
    (λ w x o. was_open (edge flow w x) (s.closed w x) ((x == h) && (s.head w == h) && edge flow w x) o) f.2 l
    (no_longer (edge flow f.0 h) (s.closed f.0 h) ((h == h) && (s.head f.0 == h) && edge flow f.0 h)
    (three_true (h == h) (s.head f.0 == h) (edge flow f.0 h) (eq-eqb h h refl) p.0 e.0)) p.1 in
    omega (arith, less)

abbrev IsTopped : State → Type 0
IsTopped s = (x : ℕ) → s.head (s.head x) ≡ s.head x

put_less : (flow : Flow) (s : State) (v g : ℕ) → v < flow.count → s.head v ≡ v → s.head g ≡ g → g ≢ v → measure flow
    (put_into v g s) < measure flow s
put_less flow s v g l top high apart =
    let opens = open_le flow (put_into v g s) s flow.count (λ u h o. o) in
    let tops = count_less (λ x. moved v g (s.head x) == x) (λ x. s.head x == x) v flow.count
    (λ x e.
    elim (cases_eq (s.head x) v) as (λ _. (s.head x == x) ≡ true) [
      | inl is ↦ absurd (let there = sym (moved_there v g (s.head x) is) ∙ eqb-true (moved v g (s.head x)) x e in apart
          (sym high ∙ (ap s.head there ∙ is)))
      | inr other ↦ subst (λ y. (y == x) ≡ true) (not_moved v g (s.head x) other) e
    ]) l
    (ne_eqb (moved v g (s.head v)) v (λ e. apart (sym (moved_there v g (s.head v) top) ∙ e)))
    (eq-eqb (s.head v) v top) in
    omega (arith, opens, tops)

put_topped : (s : State) (v g : ℕ) → s.head g ≡ g → g ≢ v → IsTopped s → IsTopped (put_into v g s)
put_topped s v g high apart t x =
    elim (cases_eq (s.head x) v) as (λ _. moved v g (s.head (moved v g (s.head x))) ≡ moved v g (s.head x)) [
      | inl e ↦
          let there = moved_there v g (s.head x) e in
          subst (λ (y : ℕ). moved v g (s.head y) ≡ y) (sym there) (ap (moved v g) high ∙ not_moved v g g apart)
      | inr ne ↦
          let there = not_moved v g (s.head x) ne in
          subst (λ (y : ℕ). moved v g (s.head y) ≡ y) (sym there) (ap (moved v g) (t x) ∙ there)
    ]

giver_is_head : (head : ℕ → ℕ) (P : ℕ → Bool) (g n : ℕ) → giver_below head P n ≡ Only g → (u : ℕ) × (head u ≡ g)
giver_is_head head P g zero e = absurd (cc)
giver_is_head head P g (suc n) e =
    elim (cases_Bool (P n)) as (λ _. (u : ℕ) × (head u ≡ g)) [
      | inl t ↦ (
        n,
        (with_only (head n) g (giver_below head P n) (sym (cond-true (P n) (with_giver (head n) (giver_below head P n))
            (giver_below head P n) t) ∙ e)).0,
      )
      | inr f ↦ giver_is_head head P g n (sym (cond-false (P n) (with_giver (head n) (giver_below head P n)) (giver_below head P n) f) ∙ e)
    ]

other_apart : (v g : ℕ) (o : Giver) → other_than v o ≡ Some g → g ≢ v
other_apart v g Nobody e = absurd (cc)
other_apart v g (Only d) e =
    elim (cases_eq d v) as (λ _. g ≢ v) [
      | inl s ↦ absurd (let h = sym (cond-true (d == v) None (Some d) (eq-eqb d v s)) ∙ e in cc)
      | inr ne ↦ let h : d ≡ g = option_same d g (sym (cond-false (d == v) None (Some d) (ne_eqb d v ne)) ∙ e) in λ is. ne (h ∙ is)
    ]
other_apart v g Several e = absurd (cc)

abbrev Lower : Flow → State → State → Type 0
Lower flow s t = (measure flow t < measure flow s) × IsTopped t

put_some_lower : (flow : Flow) (s : State) (v : ℕ) (o : Option ℕ) → IsTopped s → v < flow.count → fits_two flow s v ≡ true
    → giver_of flow s v ≡ o → IfSome (put_some v o s) (Lower flow s)
put_some_lower flow s v None t l fits is = tt
put_some_lower flow s v (Some g) t l fits is =
    let p = and_parts ((s.head v == v) && not (v == s.head flow.entry)) (is_some (giver_of flow s v)) fits in
    let q = and_parts (s.head v == v) (not (v == s.head flow.entry)) p.0 in
    let only = other_only v g (giver_below s.head (λ u. is_open flow s u v) flow.count) is in
    let u = giver_is_head s.head (λ u. is_open flow s u v) g flow.count only in
    let high : s.head g ≡ g = subst (λ y. s.head y ≡ y) u.1 (t u.0) in
    let apart = other_apart v g (giver_below s.head (λ u. is_open flow s u v) flow.count) is in
    (put_less flow s v g l (eqb-true (s.head v) v q.0) high apart, put_topped s v g high apart t)

second_lower : (flow : Flow) (s : State) (o : Option ℕ) → IsTopped s → IfSome o (λ v. (fits_two flow s v ≡ true) × (v < flow.count))
    → IfSome (second_rule flow s o) (Lower flow s)
second_lower flow s None t h = tt
second_lower flow s (Some v) t h = put_some_lower flow s v (giver_of flow s v) t h.1 h.0 refl

first_lower : (flow : Flow) (s : State) (o : Option ℕ) → IsTopped s → IfSome o (λ h. (fits_one flow s h ≡ true) × (h < flow.count)) → IfSome
    (first_rule flow s o) (Lower flow s)
first_lower flow s None t h = second_lower flow s (first_below (fits_two flow s) flow.count) t (least_passes (fits_two flow s) flow.count)
first_lower flow s (Some x) t h = (close_less flow s x h.1 h.0, t)

pub step_lowers : (flow : Flow) (s : State) → IsTopped s → IfSome (step flow s) (Lower flow s)
step_lowers flow s t = first_lower flow s (first_below (fits_one flow s) flow.count) t (least_passes (fits_one flow s) flow.count)

ends_at : (flow : Flow) (s : State) (o : Option State) → step flow s ≡ o → IfSome o (λ t. (n : ℕ) × (step flow (reduced flow n t) ≡ None)) →
    (n : ℕ) × (step flow (reduced flow n s) ≡ None)
ends_at flow s None is h = (0, is)
ends_at flow s (Some t) is h = (suc h.0, subst (λ (r : State). step flow r ≡ None) (sym (ap (and_on (reduced flow h.0) s) is)) h.1)

further : (flow : Flow) (k : ℕ) (s : State) (o : Option State) → measure flow s < suc k
    → ((t : State) → IsTopped t → measure flow t < k → (n : ℕ) × (step flow (reduced flow n t) ≡ None))
    → IfSome o (Lower flow s) → IfSome o (λ t. (n : ℕ) × (step flow (reduced flow n t) ≡ None))
further flow k s None l rest h = tt
further flow k s (Some t) l rest h = rest t h.1 (omega (arith, l, h.0))

ends_within : (flow : Flow) (k : ℕ) (s : State) → IsTopped s → measure flow s < k → (n : ℕ) × (step flow (reduced flow n s) ≡ None)
ends_within flow zero s t l = absurd (omega (arith, l))
ends_within flow (suc k) s t l =
    ends_at flow s (step flow s) refl (further flow k s (step flow s) l (ends_within flow k) (step_lowers flow s t))

pub reduction_ends : (flow : Flow) → (s : State) × IsReduced flow s
reduction_ends flow = let e = ends_within flow (suc (measure flow start)) start (λ x. refl) (omega arith) in
    (reduced flow e.0 start, (e.0, refl, e.1))

-- ---- a loop that uses the rules one at a time

last_step_at : (flow : Flow) (n : ℕ) (s t : State) (o : Option State) → step flow s ≡ o
    → ((r : State) → step flow (reduced flow n r) ≡ Some t → reduced flow (suc n) r ≡ t)
    → step flow (and_on (reduced flow n) s o) ≡ Some t → and_on (reduced flow (suc n)) s o ≡ t
last_step_at flow n s t None is rest e = absurd (let h = sym is ∙ e in cc)
last_step_at flow n s t (Some r) is rest e = rest r e

last_step : (flow : Flow) (n : ℕ) (s t : State) → step flow (reduced flow n s) ≡ Some t → reduced flow (suc n) s ≡ t
last_step flow zero s t e = ap (and_on (reduced flow zero) s) e
last_step flow (suc n) s t e = last_step_at flow n s t (step flow s) refl (λ r. last_step flow n r t) e

topped_some : (flow : Flow) (f : State → State) (s : State) (o : Option State) → ((t : State) → IsTopped t → IsTopped (f t)) → IsTopped s
    → IfSome o (Lower flow s) → IsTopped (and_on f s o)
topped_some flow f s None h t l = t
topped_some flow f s (Some r) h t l = h r l.1

topped : (flow : Flow) (n : ℕ) (s : State) → IsTopped s → IsTopped (reduced flow n s)
topped flow zero s t = t
topped flow (suc n) s t = topped_some flow (reduced flow n) s (step flow s) (topped flow n) t (step_lowers flow s t)

pub advance_back : (flow all : Flow) (s t : State) (more : Bool) → flow ≡ all → (n : ℕ) × (s ≡ reduced all n start) → Advanced flow s t more
    → (n : ℕ) × (t ≡ reduced all n start)
advance_back flow all s t true e b a =
    let a' = subst (λ (f : Flow). step f s ≡ Some t) e a in
    (suc b.0, sym (last_step all b.0 start t (subst (λ (r : State). step all r ≡ Some t) b.1 a')))
advance_back flow all s t false e b a = (b.0, a.1 ∙ b.1)

pub advance_done : (flow all : Flow) (s t : State) (more : Bool) → flow ≡ all → Advanced flow s t more → more ≡ false → step all t ≡ None
advance_done flow all s t true e a h = absurd (cc)
advance_done flow all s t false e a h = subst (λ (f : Flow). step f t ≡ None) e (subst (λ (r : State). step flow r ≡ None) (sym a.1) a.0)

pub advance_smaller : (flow all : Flow) (s t : State) (more : Bool) → flow ≡ all → (n : ℕ) × (s ≡ reduced all n start)
    → Advanced flow s t more → (if more then 1 else 0) + measure all t < 1 + measure all s
advance_smaller flow all s t true e b a =
    let a' : step all s ≡ Some t = subst (λ (f : Flow). step f s ≡ Some t) e a in
    let top : IsTopped s = subst (λ (r : State). IsTopped r) (sym b.1) (topped all b.0 start (λ x. refl)) in
    let lower : Lower all s t = subst (λ (o : Option State). IfSome o (Lower all s)) a' (step_lowers all s top) in
    let less : measure all t < measure all s = lower.0 in
    omega (arith, less)
advance_smaller flow all s t false e b a = let same : measure all t ≡ measure all s = ap (measure all) a.1 in omega (arith, same)

pub turn_smaller : (flow all : Flow) (s t : State) (was more : Bool) → was ≡ true → flow ≡ all → (n : ℕ) × (s ≡ reduced all n start)
    → Advanced flow s t more
    → (if more then 1 else 0) + measure all t < (if was then 1 else 0) + measure all s
turn_smaller flow all s t true more h e b a = advance_smaller flow all s t more e b a
turn_smaller flow all s t false more h e b a = absurd (false≢true h)
