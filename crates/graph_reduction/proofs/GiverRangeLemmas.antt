-- The giver by the first and the last number in a range.
use Rattle.std.proofs.Common.{◌≡◌, refl, sym, ap, ◌∙◌, ℕ, ◌<◌, ◌≤◌, ◌^◌, true, false, arith}
use Rattle.std.specs.Prelude.{◌≢◌, ◌==◌, Some, None}
use Rattle.std.specs.BTreeSet.{BTreeSet}
use Rattle.std.proofs.lemmas.Bool.{and_parts, and_from, eqb-true, eq-eqb, ne_eqb, cond-true, cond-false, false≢true, false_from_ne_true}
use Rattle.graph_search.specs.Flows.{Flow, edge}
use Rattle.graph_reduction.specs.Labels.{Labelled}
use Rattle.graph_reduction.specs.Reduction.{State, Only, other_than, giver_of, is_open}
use Rattle.graph_reduction.specs.Sets.{in_set, HoldsOpen}
use Rattle.graph_reduction.proofs.ReductionLemmas.{inside_count}
use Rattle.graph_reduction.proofs.LabelLemmas.{same_label}
use Rattle.graph_reduction.proofs.GiverLemmas.{only_one, several, nobody}

module _ (flow : Flow) (s : State) (label owner : ℕ → ℕ) (into : BTreeSet (ℕ × ℕ × ℕ)) (k : Labelled s label owner)
    (h : HoldsOpen flow s label into) (v : ℕ) where
  -- an open edge is in the set
  held : (u : ℕ) → is_open flow s u v ≡ true → (in_set into v (label u) u ≡ true) × (u < flow.count) × (label u < 2 ^ 32) × (u < 2 ^ 32)
  held u o =
      let l = inside_count flow u v (and_parts (edge flow u v) _ o).0 in (
        h.is v (label u) u ∙ and_from (is_open flow s u v) (label u == label u) o
            (eq-eqb (label u) (label u) refl),
        l,
        h.labels u l,
        let few = h.few in omega (arith, l, few),
      )

  -- and one in the set is open
  from_held : (n u : ℕ) → in_set into v n u ≡ true → (is_open flow s u v ≡ true) × (label u ≡ n) × (u < flow.count)
  from_held n u e =
      let p = and_parts (is_open flow s u v) (label u == n) (sym (h.is v n u) ∙ e) in
      (p.0, eqb-true (label u) n p.1, inside_count flow u v (and_parts (edge flow u v) _ p.0).0)

  pub no_giver : ((m u : ℕ) → m < 2 ^ 32 → u < 2 ^ 32 → in_set into v m u ≡ false) → giver_of flow s v ≡ None
  no_giver none =
      ap (other_than v) (nobody s.head (λ u. is_open flow s u v) flow.count
      (λ u. false_from_ne_true (is_open flow s u v) (λ o. let x = held u o in false≢true (sym (none (label u) u x.2 x.3) ∙ x.0))))

  pub two_givers : (a b : ℕ) → a ≢ b → (u : ℕ) × (in_set into v a u ≡ true) → (u : ℕ) × (in_set into v b u ≡ true) → giver_of flow s v
      ≡ None
  two_givers a b ne x y =
      let p = from_held a x.0 x.1 in
      let q = from_held b y.0 y.1 in
      ap (other_than v) (several s.head (λ u. is_open flow s u v) flow.count x.0 y.0 p.2 q.2 p.0 q.0
      (λ same. ne (sym p.1 ∙ (sym (k.back x.0) ∙ (ap label (sym (k.is x.0) ∙ (same ∙ k.is y.0)) ∙ (k.back y.0 ∙ q.1))))))

  one_giver : (a : ℕ) → (u : ℕ) × (in_set into v a u ≡ true) → ((m u : ℕ) → m < 2 ^ 32 → u < 2 ^ 32 → in_set into v m u ≡ true → a ≤ m) →
      ((m u : ℕ) → m < 2 ^ 32 → u < 2 ^ 32 → in_set into v m u ≡ true → m ≤ a)
      → giver_of flow s v ≡ other_than v (Only (owner a))
  one_giver a x low high =
      let p = from_held a x.0 x.1 in
      ap (other_than v) (only_one s.head (λ u. is_open flow s u v) (owner a) flow.count x.0
      (λ w o.
      let y = held w o in
      let le = low (label w) w y.2 y.3 y.0 in
      let ge = high (label w) w y.2 y.3 y.0 in
      let same : label w ≡ a = omega (arith, le, ge) in
      k.is w ∙ ap owner same) p.2 p.0)

  pub other_giver : (a own : ℕ) → s.head v ≡ v → label v ≡ own → a ≢ own → (u : ℕ) × (in_set into v a u ≡ true) →
      ((m u : ℕ) → m < 2 ^ 32 → u < 2 ^ 32 → in_set into v m u ≡ true → a ≤ m) →
      ((m u : ℕ) → m < 2 ^ 32 → u < 2 ^ 32 → in_set into v m u ≡ true → m ≤ a)
      → Some (owner a) ≡ giver_of flow s v
  other_giver a own top mine ne x low high =
      let p = from_held a x.0 x.1 in
      sym (one_giver a x low high ∙ cond-false (owner a == v) None (Some (owner a)) (ne_eqb (owner a) v (λ e.
      ne (sym p.1 ∙ (same_label s label owner k x.0 v (k.is x.0 ∙ (ap owner p.1 ∙ e)) ∙ mine)))))

  pub own_giver : (a own : ℕ) → s.head v ≡ v → label v ≡ own → a ≡ own → (u : ℕ) × (in_set into v a u ≡ true) →
      ((m u : ℕ) → m < 2 ^ 32 → u < 2 ^ 32 → in_set into v m u ≡ true → a ≤ m) →
      ((m u : ℕ) → m < 2 ^ 32 → u < 2 ^ 32 → in_set into v m u ≡ true → m ≤ a)
      → giver_of flow s v ≡ None
  own_giver a own top mine is x low high =
      one_giver a x low high ∙ cond-true (owner a == v) None (Some (owner a))
      (eq-eqb (owner a) v (ap owner (is ∙ sym mine) ∙ (sym (k.is v) ∙ top)))
