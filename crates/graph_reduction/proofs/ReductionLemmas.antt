-- The rules keep that each walk to a block passes the head of its node.
use Rattle.std.proofs.Common.{◌≡◌, refl, sym, ap, ◌∙◌, subst, ℕ, zero, suc, ◌<◌, ◌≤◌, ◌⊎◌, inl, inr, Bool, true, false, arith}
use Rattle.std.specs.Prelude.{◌≢◌, ◌&&◌, not, ◌==◌, nat_lt, if◌then◌else◌, Option, Some, None, IfSome, is_some}
use Rattle.std.specs.List.{list_any}
use Rattle.std.proofs.lemmas.Bool.{cases_eq, cases_Bool, ltb-true, and_parts, or_cases, and_from, not-true, eqb-true, eqb-false, eq-eqb}
use Rattle.std.proofs.lemmas.Bool.{ne_eqb, cond-true, cond-false, false≢true}
use Rattle.graph_search.specs.Walks.{Avoids, Passes}
use Rattle.graph_search.proofs.WalkLemmas.{passes_itself, before_passed}
use Rattle.graph_search.specs.Flows.{Flow, edge, leads}
use Rattle.graph_reduction.specs.Reduction.{State, start, or_else, first_below, is_open, fits_one, close, Giver, Nobody, Only, Several}
use Rattle.graph_reduction.specs.Reduction.{with_giver, giver_below, other_than, giver_of, fits_two, put_into, put_some, second_rule}
use Rattle.graph_reduction.specs.Reduction.{first_rule, step, and_on, reduced}

-- what both rules keep
pub record IsKept (flow : Flow) (s : State) : Type 0 where
  pub edges : (u h : ℕ) → s.closed u h ≡ true → edge flow u h ≡ true
  pub passed : (u h : ℕ) → s.closed u h ≡ true → Passes (leads (edge flow)) flow.entry h u
  pub heads : (x : ℕ) → Passes (leads (edge flow)) flow.entry (s.head x) x
  pub inside : (u h : ℕ) → s.closed u h ≡ true → s.head u ≡ s.head h
  pub first : s.head flow.entry ≡ flow.entry

pub start_kept : (flow : Flow) → IsKept flow start
start_kept flow =
    record {
      edges = λ u h e. absurd (false≢true e);
      passed = λ u h e. absurd (false≢true e);
      heads = λ x. passes_itself (leads (edge flow)) flow.entry x;
      inside = λ u h e. absurd (false≢true e);
      first = refl;
    }

-- an edge that closes was closed, or the rule closes it
closes_now : (flow : Flow) (s : State) (h u x : ℕ) → (close flow h s).closed u x ≡ true → (s.closed u x ≡ true) ⊎
    ((x ≡ h) × (s.head u ≡ h) × (edge flow u x ≡ true))
closes_now flow s h u x e =
    elim (or_cases (s.closed u x) ((x == h) && (s.head u == h) && edge flow u x) e) as
    (λ _. (s.closed u x ≡ true) ⊎ ((x ≡ h) × (s.head u ≡ h) × (edge flow u x ≡ true))) [
      | inl a ↦ inl a
      | inr b ↦
          let p = and_parts ((x == h) && (s.head u == h)) (edge flow u x) b in
          let q = and_parts (x == h) (s.head u == h) p.0 in
          inr (eqb-true x h q.0, eqb-true (s.head u) h q.1, p.1)
    ]

pub close_kept : (flow : Flow) (s : State) (h : ℕ) → IsKept flow s → s.head h ≡ h → IsKept flow (close flow h s)
close_kept flow s h k top =
    record {
      edges = λ u x e. elim (closes_now flow s h u x e) as (λ _. edge flow u x ≡ true) [ inl a ↦ k.edges u x a | inr b ↦ b.2 ];
      passed = λ u x e.
          elim (closes_now flow s h u x e) as (λ _. Passes (leads (edge flow)) flow.entry x u) [
            | inl a ↦ k.passed u x a
            | inr b ↦ subst (λ y. Passes (leads (edge flow)) flow.entry y u) (b.1 ∙ sym b.0) (k.heads u)
          ];
      heads = k.heads;
      inside = λ u x e.
          elim (closes_now flow s h u x e) as (λ _. s.head u ≡ s.head x) [
            | inl a ↦ k.inside u x a
            | inr b ↦ b.1 ∙ (sym top ∙ ap s.head (sym b.0))
          ];
      first = k.first;
    }

-- each walk to a head passes the node that all its open edges come from
giver_passed : (flow : Flow) (s : State) (v g : ℕ) → IsKept flow s → s.head v ≡ v → v ≢ flow.entry
    → ((u : ℕ) → edge flow u v ≡ true → s.closed u v ≡ false → s.head u ≡ g)
    → (k n : ℕ) → n ≤ k → Avoids (leads (edge flow)) g flow.entry v n → ⊥
giver_passed flow s v g kept top apart from k zero le w = apart (sym w.1)
giver_passed flow s v g kept top apart from zero (suc n) le w = absurd (omega (arith, le))
giver_passed flow s v g kept top apart from (suc k) (suc n) le w =
    let u = w.1.0 in
    let back : Avoids (leads (edge flow)) g flow.entry u n = (w.0, w.1.1) in
    elim (cases_Bool (s.closed u v)) as (λ _. ⊥) [
      | inl t ↦
          let over : Passes (leads (edge flow)) flow.entry v u = subst (λ y. Passes (leads (edge flow)) flow.entry y u)
          (kept.inside u v t ∙ top) (kept.heads u) in
          let r = before_passed (leads (edge flow)) g v flow.entry u n over back in
          giver_passed flow s v g kept top apart from k r.0 (omega (arith, le, r.1)) r.2
      | inr f ↦ subst (λ y. Passes (leads (edge flow)) flow.entry y u) (from u w.1.2.0 f) (kept.heads u) n back
    ]

pub put_kept : (flow : Flow) (s : State) (v g : ℕ) → IsKept flow s → s.head v ≡ v → v ≢ s.head flow.entry
    → ((u : ℕ) → edge flow u v ≡ true → s.closed u v ≡ false → s.head u ≡ g)
    → IsKept flow (put_into v g s)
put_kept flow s v g kept top apart from =
    record {
      edges = kept.edges;
      passed = kept.passed;
      heads = λ x.
          elim (cases_eq (s.head x) v) as (λ _. Passes (leads (edge flow)) flow.entry ((put_into v g s).head x) x) [
            | inl e ↦
                subst (λ y. Passes (leads (edge flow)) flow.entry y x)
                (sym (cond-true (s.head x == v) g (s.head x) (eq-eqb (s.head x) v e)))
                (λ n w.
                let r = before_passed (leads (edge flow)) g v flow.entry x n
                (subst (λ y. Passes (leads (edge flow)) flow.entry y x) e (kept.heads x)) w in
                giver_passed flow s v g kept top (λ d. apart (d ∙ sym kept.first)) from r.0 r.0 (omega arith) r.2)
            | inr ne ↦ subst (λ y. Passes (leads (edge flow)) flow.entry y x)
                (sym (cond-false (s.head x == v) g (s.head x) (ne_eqb (s.head x) v ne))) (kept.heads x)
          ];
      inside = λ u h e. ap (λ y. if y == v then g else y) (kept.inside u h e);
      first = cond-false (s.head flow.entry == v) g (s.head flow.entry) (ne_eqb (s.head flow.entry) v (λ e. apart (sym e))) ∙ kept.first;
    }

-- the least number that passes does
either_passes : (P : ℕ → Bool) (n : ℕ) (o : Option ℕ) (b : Bool) → P n ≡ b → IfSome o (λ k. (P k ≡ true) × (k < n)) → IfSome
    (or_else o (if b then Some n else None)) (λ k. (P k ≡ true) × (k < suc n))
either_passes P n None true e h = (e, omega arith)
either_passes P n None false e h = tt
either_passes P n (Some k) b e h = (h.0, omega (arith, h.1))

pub least_passes : (P : ℕ → Bool) (n : ℕ) → IfSome (first_below P n) (λ k. (P k ≡ true) × (k < n))
least_passes P zero = tt
least_passes P (suc n) = either_passes P n (first_below P n) (P n) refl (least_passes P n)

-- where one node alone gives, each number that passes is in it
abbrev node_of : ℕ → Giver → ℕ
node_of d Nobody = d
node_of d (Only g) = g
node_of d Several = d

only_same : (f g : ℕ) → Only f ≡ Only g → f ≡ g
only_same f g e = ap (node_of f) e

pub with_only : (f g : ℕ) (o : Giver) → with_giver f o ≡ Only g → (f ≡ g) × ((o ≡ Nobody) ⊎ (o ≡ Only g))
with_only f g Nobody e = (only_same f g e, inl refl)
with_only f g (Only d) e =
    elim (cases_eq d f) as (λ _. (f ≡ g) × ((Only d ≡ Nobody) ⊎ (Only d ≡ Only g))) [
      | inl s ↦ let h = sym (cond-true (d == f) (Only d) Several (eq-eqb d f s)) ∙ e in (sym s ∙ only_same d g h, inr h)
      | inr ne ↦ absurd (let h = sym (cond-false (d == f) (Only d) Several (ne_eqb d f ne)) ∙ e in cc)
    ]
with_only f g Several e = absurd (cc)

with_somebody : (f : ℕ) (o : Giver) → with_giver f o ≡ Nobody → ⊥
with_somebody f Nobody e = cc
with_somebody f (Only d) e =
    elim (cases_Bool (d == f)) as (λ _. ⊥) [
      | inl t ↦ let h = sym (cond-true (d == f) (Only d) Several t) ∙ e in cc
      | inr n ↦ let h = sym (cond-false (d == f) (Only d) Several n) ∙ e in cc
    ]
with_somebody f Several e = cc

below_next : (u n : ℕ) → u < suc n → (u ≡ n) ⊎ (u < n)
below_next u n h = grind arith

nobody_below : (head : ℕ → ℕ) (P : ℕ → Bool) (n : ℕ) → giver_below head P n ≡ Nobody → (u : ℕ) → u < n → P u ≡ true → ⊥
nobody_below head P zero e u lt p = omega (arith, lt)
nobody_below head P (suc n) e u lt p =
    elim (cases_Bool (P n)) as (λ _. ⊥) [
      | inl t ↦ with_somebody (head n) (giver_below head P n) (sym (cond-true (P n) (with_giver (head n) (giver_below head P n))
          (giver_below head P n) t) ∙ e)
      | inr f ↦
          elim (below_next u n lt) as (λ _. ⊥) [
            | inl s ↦ false≢true (sym f ∙ (ap P (sym s) ∙ p))
            | inr l ↦ nobody_below head P n (sym (cond-false (P n) (with_giver (head n) (giver_below head P n)) (giver_below head P n) f)
                ∙ e) u l p
          ]
    ]

only_below : (head : ℕ → ℕ) (P : ℕ → Bool) (g n : ℕ) → giver_below head P n ≡ Only g → (u : ℕ) → u < n → P u ≡ true → head u ≡ g
only_below head P g zero e u lt p = absurd (omega (arith, lt))
only_below head P g (suc n) e u lt p =
    elim (cases_Bool (P n)) as (λ _. head u ≡ g) [
      | inl t ↦
          let h = with_only (head n) g (giver_below head P n) (sym (cond-true (P n) (with_giver (head n) (giver_below head P n))
          (giver_below head P n) t) ∙ e) in
          elim (below_next u n lt) as (λ _. head u ≡ g) [
            | inl s ↦ ap head s ∙ h.0
            | inr l ↦
                elim h.1 as (λ _. head u ≡ g) [
                  | inl none ↦ absurd (nobody_below head P n none u l p)
                  | inr one ↦ only_below head P g n one u l p
                ]
          ]
      | inr f ↦
          elim (below_next u n lt) as (λ _. head u ≡ g) [
            | inl s ↦ absurd (false≢true (sym f ∙ (ap P (sym s) ∙ p)))
            | inr l ↦ only_below head P g n (sym (cond-false (P n) (with_giver (head n) (giver_below head P n)) (giver_below head P n) f)
                ∙ e) u l p
          ]
    ]

-- ---- a step

pub option_same : (f g : ℕ) → Some f ≡ Some g → f ≡ g
option_same f g e = cc

pub other_only : (v g : ℕ) (o : Giver) → other_than v o ≡ Some g → o ≡ Only g
other_only v g Nobody e = absurd (cc)
other_only v g (Only d) e =
    elim (cases_Bool (d == v)) as (λ _. Only d ≡ Only g) [
      | inl t ↦ absurd (let h = sym (cond-true (d == v) None (Some d) t) ∙ e in cc)
      | inr f ↦ ap Only (option_same d g (sym (cond-false (d == v) None (Some d) f) ∙ e))
    ]
other_only v g Several e = absurd (cc)

pub inside_count : (flow : Flow) (u h : ℕ) → edge flow u h ≡ true → u < flow.count
inside_count flow u h e = ltb-true u flow.count (and_parts (nat_lt u flow.count) (list_any (λ x. x == h) (flow.next u)) e).0

not_closed : (b : Bool) → b ≡ false → not b ≡ true
not_closed true f = absurd (cc)
not_closed false f = refl

second_kept : (flow : Flow) (s : State) (v : ℕ) (o : Option ℕ) → IsKept flow s → fits_two flow s v ≡ true → giver_of flow s v ≡ o → IfSome
    (put_some v o s) (IsKept flow)
second_kept flow s v None k fits is = tt
second_kept flow s v (Some g) k fits is =
    let p = and_parts ((s.head v == v) && not (v == s.head flow.entry)) (is_some (giver_of flow s v)) fits in
    let q = and_parts (s.head v == v) (not (v == s.head flow.entry)) p.0 in
    let only = other_only v g (giver_below s.head (λ u. is_open flow s u v) flow.count) is in
    put_kept flow s v g k (eqb-true (s.head v) v q.0) (eqb-false v (s.head flow.entry) (not-true (v == s.head flow.entry) q.1))
    (λ u e f. only_below s.head (λ u. is_open flow s u v) g flow.count only u (inside_count flow u v e)
    (and_from (edge flow u v) (not (s.closed u v)) e (not_closed (s.closed u v) f)))

-- what the second rule gives, where it fits at the least of these
second_rule_kept : (flow : Flow) (s : State) (o : Option ℕ) → IsKept flow s → IfSome o (λ v. fits_two flow s v ≡ true) → IfSome
    (second_rule flow s o) (IsKept flow)
second_rule_kept flow s None k h = tt
second_rule_kept flow s (Some v) k h = second_kept flow s v (giver_of flow s v) k h refl

only_passes : (P : ℕ → Bool) (n : ℕ) (o : Option ℕ) → IfSome o (λ k. (P k ≡ true) × (k < n)) → IfSome o (λ k. P k ≡ true)
only_passes P n None h = tt
only_passes P n (Some k) h = h.0

first_rule_kept : (flow : Flow) (s : State) (o : Option ℕ) → IsKept flow s → IfSome o (λ h. fits_one flow s h ≡ true) → IfSome
    (first_rule flow s o) (IsKept flow)
first_rule_kept flow s None k h =
    second_rule_kept flow s (first_below (fits_two flow s) flow.count) k
    (only_passes (fits_two flow s) flow.count (first_below (fits_two flow s) flow.count) (least_passes (fits_two flow s) flow.count))
first_rule_kept flow s (Some x) k h =
    close_kept flow s x k (eqb-true (s.head x) x (and_parts (s.head x == x)
    (is_some (first_below (λ u. (s.head u == x) && is_open flow s u x) flow.count)) h).0)

pub step_kept : (flow : Flow) (s : State) → IsKept flow s → IfSome (step flow s) (IsKept flow)
step_kept flow s k =
    first_rule_kept flow s (first_below (fits_one flow s) flow.count) k
    (only_passes (fits_one flow s) flow.count (first_below (fits_one flow s) flow.count) (least_passes (fits_one flow s) flow.count))

and_on_kept : (flow : Flow) (f : State → State) (s : State) (o : Option State) → ((t : State) → IsKept flow t → IsKept flow (f t))
    → IsKept flow s → IfSome o (IsKept flow) → IsKept flow (and_on f s o)
and_on_kept flow f s None h k o = k
and_on_kept flow f s (Some t) h k o = h t o

pub reduced_kept : (flow : Flow) (n : ℕ) (s : State) → IsKept flow s → IsKept flow (reduced flow n s)
reduced_kept flow zero s k = k
reduced_kept flow (suc n) s k = and_on_kept flow (reduced flow n) s (step flow s) (reduced_kept flow n) k (step_kept flow s k)
