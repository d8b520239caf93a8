-- A step of the reduction, by the least numbers of two sets.
use Rattle.std.proofs.Common.{◌≡◌, refl, sym, ap, ◌∙◌, subst, ℕ, zero, suc, ◌<◌, inl, inr, Bool, true, false, List, arith}
use Rattle.std.specs.Prelude.{◌≢◌, ◌&&◌, not, ◌==◌, Option, Some, None, is_some, IfSome, option_map}
use Rattle.std.specs.BTreeSet.{BTreeSet}
use Rattle.std.proofs.lemmas.Bool.{cases_Bool, and_parts, eqb-true, eq-eqb, cond-true, cond-false, false≢true}
use Rattle.graph_reduction.specs.Advances.{Advanced}
use Rattle.graph_search.specs.Flows.{Flow, edge, IsBounded}
use Rattle.graph_reduction.specs.Nodes.{number_in, state_of, AreNodes}
use Rattle.graph_reduction.specs.Reduction.{State, first_below, is_open, fits_one, close, Giver, Nobody, Only, Several, with_giver}
use Rattle.graph_reduction.specs.Reduction.{giver_below, other_than, giver_of, fits_two, put_into, put_some, second_rule, first_rule}
use Rattle.graph_reduction.specs.Labels.{Labelled}
use Rattle.graph_reduction.specs.Sets.{HasExactly, HoldsOpen}
use Rattle.graph_reduction.proofs.TestLemmas.{labelled, holds_open}
use Rattle.graph_reduction.proofs.ReductionLemmas.{least_passes, with_only, other_only}

found_at : (P : ℕ → Bool) (n k : ℕ) (o : Option ℕ) → Some k ≡ o → IfSome o (λ j. (P j ≡ true) × (j < n)) → (P k ≡ true) × (k < n)
found_at P n k o e h = subst (λ (p : Option ℕ). IfSome p (λ j. (P j ≡ true) × (j < n))) (sym e) h

found_one : (P : ℕ → Bool) (n : ℕ) (o : Option ℕ) → is_some o ≡ true → IfSome o (λ k. (P k ≡ true) × (k < n)) → (k : ℕ) × (P k ≡ true) ×
    (k < n)
found_one P n None e h = absurd (false≢true e)
found_one P n (Some k) e h = (k, h.0, h.1)

only_source : (head : ℕ → ℕ) (P : ℕ → Bool) (g n : ℕ) → giver_below head P n ≡ Only g → (u : ℕ) × (u < n) × (P u ≡ true) × (head u ≡ g)
only_source head P g zero e = absurd (cc)
only_source head P g (suc n) e =
    elim (cases_Bool (P n)) as (λ _. (u : ℕ) × (u < suc n) × (P u ≡ true) × (head u ≡ g)) [
      | inl t ↦ (
        n,
        omega arith,
        t,
        (with_only (head n) g (giver_below head P n)
            (sym (cond-true (P n) (with_giver (head n) (giver_below head P n)) (giver_below head P n) t) ∙ e)).0,
      )
      | inr f ↦
          let r = only_source head P g n (sym (cond-false (P n) (with_giver (head n) (giver_below head P n)) (giver_below head P n) f)
          ∙ e) in
          let l = r.1 in
          (r.0, omega (arith, l), r.2, r.3)
    ]

other_apart : (v g : ℕ) (o : Giver) → other_than v o ≡ Some g → v ≢ g
other_apart v g Nobody e d = absurd (cc)
other_apart v g (Only f) e d =
    elim (cases_Bool (f == v)) as (λ _. ⊥) [
      | inl t ↦ let h = sym (cond-true (f == v) None (Some f) t) ∙ e in cc
      | inr n ↦
          let h : f ≡ g = some_same f g (sym (cond-false (f == v) None (Some f) n) ∙ e) in
          false≢true (sym n ∙ eq-eqb f v (h ∙ sym d))
    ]
  where
    some_same : (f g : ℕ) → ◌≡◌ {A = Option ℕ} (Some f) (Some g) → f ≡ g
    some_same f g e = cc
other_apart v g Several e d = absurd (cc)

somebody : (v : ℕ) (o : Giver) → is_some (other_than v o) ≡ true → (g : ℕ) × (o ≡ Only g)
somebody v Nobody e = absurd (false≢true e)
somebody v (Only g) e = (g, refl)
somebody v Several e = absurd (false≢true e)

pub one_under : (flow : Flow) (s : State) → IsBounded flow → (q : ℕ) → fits_one flow s q ≡ true → q < flow.count
one_under flow s b q t =
    let P = λ (u : ℕ). (s.head u == q) && is_open flow s u q in
    let f = found_one P flow.count (first_below P flow.count) (and_parts (s.head q == q) (is_some (first_below P flow.count)) t).1
    (least_passes P flow.count) in
    let o = (and_parts (s.head f.0 == q) (is_open flow s f.0 q) f.1).1 in
    b.below f.0 q (and_parts (edge flow f.0 q) (not (s.closed f.0 q)) o).0

pub two_under : (flow : Flow) (s : State) → IsBounded flow → (q : ℕ) → fits_two flow s q ≡ true → q < flow.count
two_under flow s b q t =
    let p = and_parts ((s.head q == q) && not (q == s.head flow.entry)) (is_some (giver_of flow s q)) t in
    let g = somebody q (giver_below s.head (λ u. is_open flow s u q) flow.count) p.1 in
    let r = only_source s.head (λ u. is_open flow s u q) g.0 flow.count g.1 in
    b.below r.0 q (and_parts (edge flow r.0 q) (not (s.closed r.0 q)) r.2).0

module _ (flow : Flow) (L O : List ℕ) (M I : BTreeSet (ℕ × ℕ × ℕ)) (ones twos : BTreeSet ℕ) (w : AreNodes flow L O M I ones twos) where
  abbrev s : State
  s = state_of flow (number_in L) (number_in O) I

  source : (v g : ℕ) → giver_below s.head (λ u. is_open flow s u v) flow.count ≡ Only g → (u : ℕ) × (u < flow.count) ×
      (edge flow u v ≡ true) × (s.head u ≡ g)
  source v g e =
      let r = only_source s.head (λ u. is_open flow s u v) g flow.count e in
      (r.0, r.1, (and_parts (edge flow r.0 v) (not (s.closed r.0 v)) r.2).0, r.3)

  pub ones_are : HasExactly ones (fits_one flow s) flow.count
  ones_are = record { is = w.tested.one; below = one_under flow s w.ready.bounded }

  pub twos_are : HasExactly twos (fits_two flow s) flow.count
  twos_are = record { is = w.tested.two; below = two_under flow s w.ready.bounded }

  pub one_top : (h : ℕ) → ◌≡◌ {A = Option ℕ} (Some h) (first_below (fits_one flow s) flow.count) → s.head h ≡ h
  one_top h e =
      let f = found_at (fits_one flow s) flow.count h (first_below (fits_one flow s) flow.count) e
      (least_passes (fits_one flow s) flow.count) in
      eqb-true (s.head h) h (and_parts (s.head h == h) (is_some (first_below
      (λ u. (s.head u == h) && is_open flow s u h) flow.count)) f.0).0

  pub one_step : (h : ℕ) (t : State) → ◌≡◌ {A = Option ℕ} (Some h) (first_below (fits_one flow s) flow.count) → t ≡ close flow h s
      → Advanced flow s t true
  one_step h t e is = ap (first_rule flow s) (sym e) ∙ ap Some (sym is)

  pub two_fits : (v : ℕ) → ◌≡◌ {A = Option ℕ} (Some v) (first_below (fits_two flow s) flow.count) → (fits_two flow s v ≡ true) ×
      (v < flow.count)
  two_fits v e = found_at (fits_two flow s) flow.count v (first_below (fits_two flow s) flow.count) e
      (least_passes (fits_two flow s) flow.count)

  pub two_step : (v g : ℕ) (t : State) → ◌≡◌ {A = Option ℕ} None (first_below (fits_one flow s) flow.count) → ◌≡◌ {A = Option ℕ} (Some v)
      (first_below (fits_two flow s) flow.count)
      → giver_of flow s v ≡ Some g → t ≡ put_into v g s → Advanced flow s t true
  two_step v g t e d gives is = ap (first_rule flow s) (sym e) ∙ (ap (second_rule flow s) (sym d) ∙
      (ap (λ o. put_some v o s) gives ∙ ap Some (sym is)))

  pub no_step : ◌≡◌ {A = Option ℕ} None (first_below (fits_one flow s) flow.count) → ◌≡◌ {A = Option ℕ} None
      (first_below (fits_two flow s) flow.count) → Advanced flow s s false
  no_step e d = (ap (first_rule flow s) (sym e) ∙ ap (second_rule flow s) (sym d), refl)

  -- the giver is the head of another node
  pub giver_is : (v g : ℕ) → giver_of flow s v ≡ Some g → (s.head g ≡ g) × (g < flow.count) × (v ≢ g)
  giver_is v g e =
      let r = source v g (other_only v g (giver_below s.head (λ u. is_open flow s u v) flow.count) e) in (
        ap s.head (sym r.3) ∙ (ap (number_in O) (w.ready.numbers.back r.0) ∙ r.3),
        subst (λ y. y < flow.count) r.3 (w.ready.numbers.owners (number_in L r.0) (w.ready.numbers.labels r.0 r.1)),
        other_apart v g (giver_below s.head (λ u. is_open flow s u v) flow.count) e,
      )

  pub labels_apart : (v g : ℕ) → s.head v ≡ v → s.head g ≡ g → v ≢ g → number_in L v ≢ number_in L g
  labels_apart v g a b ne e = ne (sym a ∙ (ap (number_in O) e ∙ b))

  pub two_top : (v : ℕ) → fits_two flow s v ≡ true → s.head v ≡ v
  two_top v t =
      eqb-true (s.head v) v (and_parts (s.head v == v) (not (v == s.head flow.entry))
      (and_parts ((s.head v == v) && not (v == s.head flow.entry)) (is_some (giver_of flow s v)) t).0).0

  pub two_gives : (v : ℕ) (o : Option ℕ) → fits_two flow s v ≡ true → o ≡ giver_of flow s v → o ≡ None → ⊥
  two_gives v o t e n = false≢true (ap is_some (sym n ∙ e) ∙ (and_parts ((s.head v == v) && not (v == s.head flow.entry))
      (is_some (giver_of flow s v)) t).1)

  abbrev pub Gives : ℕ → ℕ → Option ℕ → Type 0
  Gives v own o = (flow : Flow) (s : State) (label owner : ℕ → ℕ) → Labelled s label owner → HoldsOpen flow s label I → s.head v ≡ v
      → label v ≡ own → option_map owner o ≡ giver_of flow s v

  gives : (v own : ℕ) (o : Option ℕ) → own ≡ number_in L v → fits_two flow s v ≡ true → Gives v own o → option_map (number_in O) o
      ≡ giver_of flow s v
  gives v own o mine t h =
      h flow s (number_in L) (number_in O) (labelled flow (number_in L) (number_in O) I w.ready.bounded w.ready.held w.ready.numbers)
      (holds_open flow (number_in L) (number_in O) I w.ready.bounded w.ready.held w.ready.numbers)
      (two_top v t) (sym mine)

  pub some_gives : (v own other g : ℕ) → own ≡ number_in L v → g ≡ number_in O other → fits_two flow s v ≡ true → Gives v own (Some other)
      → giver_of flow s v ≡ Some g
  some_gives v own other g mine is t h = sym (gives v own (Some other) mine t h) ∙ ap Some (sym is)

  pub none_gives : (v own : ℕ) → own ≡ number_in L v → fits_two flow s v ≡ true → Gives v own None → ⊥
  none_gives v own mine t h = two_gives v (option_map (number_in O) None) t (gives v own None mine t h) refl

  pub highest : (v g a b : ℕ) → fits_two flow s v ≡ true → v < flow.count → giver_of flow s v ≡ Some g → a ≡ number_in L v → b
      ≡ number_in L g
      → (number_in O (number_in L g) ≡ g) × (v < flow.count) × (g < flow.count) × (a ≢ b)
  highest v g a b t l e p q =
      let r = giver_is v g e in
      (r.0, l, r.1, λ d. labels_apart v g (two_top v t) r.0 r.2 (sym p ∙ (d ∙ q)))
