-- Numbers of nodes apart from their heads.
use Rattle.std.proofs.Common.{◌≡◌, refl, sym, ap, ◌∙◌, ℕ, ◌⊎◌, inl, inr}
use Rattle.std.specs.Prelude.{◌≢◌, ◌==◌, if◌then◌else◌}
use Rattle.std.proofs.lemmas.Bool.{cases_eq, cond-true, cond-false, eq-eqb, ne_eqb}
use Rattle.graph_reduction.specs.Reduction.{State, put_into}
use Rattle.graph_reduction.specs.Labels.{Labelled}

abbrev pub relabelled : ℕ → ℕ → (ℕ → ℕ) → ℕ → ℕ
relabelled a b label w = if label w == a then b else label w

abbrev pub reowned : ℕ → ℕ → (ℕ → ℕ) → ℕ → ℕ
reowned b g owner n = if n == b then g else owner n

module _ (s : State) (label owner : ℕ → ℕ) (k : Labelled s label owner) where
  pub same_label : (w v : ℕ) → s.head w ≡ v → label w ≡ label v
  same_label w v e = sym (k.back w) ∙ ap label (sym (k.is w) ∙ e)

  pub same_head : (w v : ℕ) → s.head v ≡ v → label w ≡ label v → s.head w ≡ v
  same_head w v top e = k.is w ∙ (ap owner e ∙ (sym (k.is v) ∙ top))

  module _ (v g a b : ℕ) (top : s.head v ≡ v) (high : s.head g ≡ g) (apart : v ≢ g)
      (sides : ((a ≡ label v) × (b ≡ label g)) ⊎ ((a ≡ label g) × (b ≡ label v))) where
    -- the blocks of both nodes
    of_both : (w : ℕ) → (s.head w ≡ v) ⊎ (s.head w ≡ g) → relabelled a b label w ≡ b
    of_both w e =
        elim (cases_eq (label w) a) as (λ _. relabelled a b label w ≡ b) [
          | inl t ↦ cond-true (label w == a) b (label w) (eq-eqb (label w) a t)
          | inr ne ↦
              cond-false (label w == a) b (label w) (ne_eqb (label w) a ne)
              ∙ elim e as (λ _. label w ≡ b) [
                | inl is_v ↦
                    elim sides as (λ _. label w ≡ b) [
                      | inl x ↦ absurd (ne (same_label w v is_v ∙ sym x.0))
                      | inr x ↦ same_label w v is_v ∙ sym x.1
                    ]
                | inr is_g ↦
                    elim sides as (λ _. label w ≡ b) [
                      | inl x ↦ same_label w g is_g ∙ sym x.1
                      | inr x ↦ absurd (ne (same_label w g is_g ∙ sym x.0))
                    ]
              ]
        ]

    label_apart : (w : ℕ) → s.head w ≢ v → s.head w ≢ g → (label w ≢ a) × (label w ≢ b)
    label_apart w nv ng =
        elim sides as (λ _. (label w ≢ a) × (label w ≢ b)) [
          | inl x ↦ ((λ e. nv (same_head w v top (e ∙ x.0))), λ e. ng (same_head w g high (e ∙ x.1)))
          | inr x ↦ ((λ e. ng (same_head w g high (e ∙ x.0))), λ e. nv (same_head w v top (e ∙ x.1)))
        ]

    -- any other block keeps its number, which keeps its head
    of_other : (w : ℕ) → s.head w ≢ v → s.head w ≢ g → (relabelled a b label w ≡ label w) × (reowned b g owner (label w) ≡ owner (label w))
    of_other w nv ng =
        let n = label_apart w nv ng in (
          cond-false (label w == a) b (label w) (ne_eqb (label w) a n.0),
          cond-false (label w == b) g (owner (label w))
              (ne_eqb (label w) b n.1),
        )

    owned : reowned b g owner b ≡ g
    owned = cond-true (b == b) g (owner b) (eq-eqb b b refl)

    -- whichever of the two numbers stays, the labels are those of the node that was put in
    pub put_labels : Labelled (put_into v g s) (relabelled a b label) (reowned b g owner)
    put_labels =
        record {
          is = λ w.
              elim (cases_eq (s.head w) v) as (λ _. (put_into v g s).head w ≡ reowned b g owner (relabelled a b label w)) [
                | inl e ↦
                    cond-true (s.head w == v) g (s.head w) (eq-eqb (s.head w) v e)
                    ∙ sym (ap (reowned b g owner) (of_both w (inl e)) ∙ owned)
                | inr nv ↦
                    cond-false (s.head w == v) g (s.head w) (ne_eqb (s.head w) v nv)
                    ∙ elim (cases_eq (s.head w) g) as (λ _. s.head w ≡ reowned b g owner (relabelled a b label w)) [
                      | inl e ↦ e ∙ sym (ap (reowned b g owner) (of_both w (inr e)) ∙ owned)
                      | inr ng ↦ let o = of_other w nv ng in k.is w ∙ sym (ap (reowned b g owner) o.0 ∙ o.1)
                    ]
              ];
          back = λ w.
              let both : (e : (s.head w ≡ v) ⊎ (s.head w ≡ g)) → relabelled a b label (reowned b g owner (relabelled a b label w))
              ≡ relabelled a b label w =
              λ e. ap (λ n. relabelled a b label (reowned b g owner n)) (of_both w e) ∙
              (ap (relabelled a b label) owned ∙ (of_both g (inr high) ∙ sym (of_both w e))) in
              elim (cases_eq (s.head w) v) as (λ _. relabelled a b label (reowned b g owner (relabelled a b label w))
              ≡ relabelled a b label w) [
                | inl e ↦ both (inl e)
                | inr nv ↦
                    elim (cases_eq (s.head w) g) as (λ _. relabelled a b label (reowned b g owner (relabelled a b label w))
                    ≡ relabelled a b label w) [
                      | inl e ↦ both (inr e)
                      | inr ng ↦
                          let o = of_other w nv ng in
                          let n = label_apart w nv ng in
                          ap (λ m. relabelled a b label (reowned b g owner m)) o.0 ∙ (ap (relabelled a b label) o.1
                          ∙ (cond-false (label (owner (label w)) == a) b (label (owner (label w)))
                          (ne_eqb (label (owner (label w))) a (λ e. n.0 (sym (k.back w) ∙ e)))
                          ∙ (k.back w ∙ sym o.0)))
                    ]
              ];
        }
