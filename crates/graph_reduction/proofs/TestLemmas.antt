-- The tests of the rules by the numbers of nodes and the set of open edges.
use Rattle.std.proofs.Common.{◌≡◌, refl, sym, ap, ◌∙◌, subst, ℕ, ◌<◌, ◌^◌, inl, inr, Bool, true, false, arith}
use Rattle.std.specs.Prelude.{◌≢◌, ◌&&◌, not, ◌==◌, Option, Some, None, is_some, option_map}
use Rattle.std.specs.BTreeSet.{BTreeSet}
use Rattle.std.proofs.lemmas.Bool.{cases_eq, and_parts, and_from, eqb-true, eq-eqb, ne_eqb, false≢true, false_from_ne_true}
use Rattle.graph_search.specs.Flows.{Flow, edge, IsBounded}
use Rattle.graph_reduction.specs.Labels.{Labelled}
use Rattle.graph_reduction.specs.Nodes.{state_of, AreHeld, AreNumbers}
use Rattle.graph_reduction.specs.Reduction.{first_below, is_open, fits_one, giver_of, fits_two}
use Rattle.graph_reduction.specs.Sets.{in_set, HoldsOpen}
use Rattle.graph_reduction.proofs.LeastLemmas.{none_below, some_below}
use Rattle.graph_reduction.proofs.ReductionLemmas.{inside_count}

still_open : (e i : Bool) → (i ≡ true → e ≡ true) → (e && not (e && not i)) ≡ i
still_open true true h = refl
still_open true false h = refl
still_open false true h = absurd (false≢true (h refl))
still_open false false h = refl

no_second : (a b : Bool) → b ≡ false → (a && b) ≡ false
no_second true b e = e
no_second false b e = refl

module _ (flow : Flow) (label owner : ℕ → ℕ) (into : BTreeSet (ℕ × ℕ × ℕ)) (b : IsBounded flow) (h : AreHeld flow label into) where
  pub open_is : (u t : ℕ) → is_open flow (state_of flow label owner into) u t ≡ in_set into t (label u) u
  open_is u t = still_open (edge flow u t) (in_set into t (label u) u) (h.edges t (label u) u)

  -- an edge of the set is open, and stands under its source's number
  pub held_open : (t n u : ℕ) → in_set into t n u ≡ true → (is_open flow (state_of flow label owner into) u t ≡ true) × (label u ≡ n) ×
      (u < flow.count)
  held_open t n u e =
      let p = and_parts (in_set into t (label u) u) (label u == n) (sym (h.exact t n u) ∙ e) in
      (open_is u t ∙ p.0, eqb-true (label u) n p.1, inside_count flow u t (h.edges t n u e))

  pub open_held : (t u : ℕ) → is_open flow (state_of flow label owner into) u t ≡ true → in_set into t (label u) u ≡ true
  open_held t u e = sym (open_is u t) ∙ e

  module _ (k : AreNumbers flow label owner) where
    pub labelled : Labelled (state_of flow label owner into) label owner
    labelled = record { is = λ w. refl; back = k.back }

    pub holds_open : HoldsOpen flow (state_of flow label owner into) label into
    holds_open =
        record {
          is = λ t n u. h.exact t n u ∙ ap (λ c. c && (label u == n)) (sym (open_is u t));
          labels = λ u l. let m = k.labels u l in let f = b.few in omega (arith, m, f);
          few = let f = b.few in omega (arith, f);
        }

    pub self_yes : (x own u : ℕ) → own ≡ label x → owner own ≡ x → in_set into x own u ≡ true → true ≡ fits_one flow
        (state_of flow label owner into) x
    self_yes x own u mine top e =
        let s = state_of flow label owner into in
        let p = held_open x own u e in
        let head : owner (label u) ≡ x = ap owner p.1 ∙ top in
        sym (and_from (owner (label x) == x) (is_some (first_below (λ w. (s.head w == x) && is_open flow s w x) flow.count))
        (eq-eqb (owner (label x)) x (ap owner (sym mine) ∙ top))
        (some_below (λ w. (s.head w == x) && is_open flow s w x) u flow.count
        (and_from (s.head u == x) (is_open flow s u x) (eq-eqb (s.head u) x head) p.0) p.2))

    pub self_no : (x own : ℕ) → own ≡ label x → ((u : ℕ) → u < 2 ^ 32 → in_set into x own u ≡ false) → false ≡ fits_one flow
        (state_of flow label owner into) x
    self_no x own mine none =
        let s = state_of flow label owner into in
        let P = λ (w : ℕ). (s.head w == x) && is_open flow s w x in
        elim (cases_eq (owner (label x)) x) as (λ _. false ≡ fits_one flow s x) [
          | inr ne ↦ sym (ap (λ c. c && is_some (first_below P flow.count)) (ne_eqb (owner (label x)) x ne))
          | inl top ↦
              sym (no_second (owner (label x) == x) (is_some (first_below P flow.count))
              (ap is_some (none_below P flow.count (λ u l. false_from_ne_true (P u) (λ t.
              let p = and_parts (s.head u == x) (is_open flow s u x) t in
              let head : owner (label u) ≡ x = eqb-true (owner (label u)) x p.0 in
              let f = b.few in
              let same : label u ≡ own = sym (k.back u) ∙ (ap label head ∙ sym mine) in
              false≢true (sym (none u (omega (arith, l, f))) ∙ subst (λ n. in_set into x n u ≡ true) same (open_held x u p.1)))))))
        ]

    pub giver_yes : (x own g entry : ℕ) (o : Option ℕ) → o ≡ Some g → flow.entry ≡ entry → own ≡ label x → owner own ≡ x → owner
        (label entry) ≢ x
        → option_map owner o ≡ giver_of flow (state_of flow label owner into) x → true ≡ fits_two flow (state_of flow label owner into) x
    giver_yes x own g entry o is e mine top other gives =
        let s = state_of flow label owner into in
        sym (and_from ((owner (label x) == x) && not (x == owner (label flow.entry))) (is_some (giver_of flow s x))
        (and_from (owner (label x) == x) (not (x == owner (label flow.entry)))
        (eq-eqb (owner (label x)) x (ap owner (sym mine) ∙ top))
        (ap not (ne_eqb x (owner (label flow.entry)) (λ q. other (sym (q ∙ ap (λ y. owner (label y)) e))))))
        (ap is_some (sym gives) ∙ ap (λ p. is_some (option_map owner p)) is))

    pub giver_no : (x : ℕ) (o : Option ℕ) → o ≡ None → option_map owner o ≡ giver_of flow (state_of flow label owner into) x → false
        ≡ fits_two flow (state_of flow label owner into) x
    giver_no x o is gives =
        let s = state_of flow label owner into in
        sym (no_second ((owner (label x) == x) && not (x == owner (label flow.entry))) (is_some (giver_of flow s x))
        (ap is_some (sym gives) ∙ ap (λ p. is_some (option_map owner p)) is))
