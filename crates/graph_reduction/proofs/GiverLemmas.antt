-- When one node alone gives.
use Rattle.std.proofs.Common.{◌≡◌, refl, sym, ap, ◌∙◌, ℕ, zero, suc, ◌<◌, ◌⊎◌, inl, inr, Bool, true, false, arith}
use Rattle.std.specs.Prelude.{◌≢◌, ◌==◌}
use Rattle.std.proofs.lemmas.Bool.{cases_eq, cases_Bool, cond-true, cond-false, eq-eqb, ne_eqb, false≢true}
use Rattle.graph_reduction.specs.Reduction.{Giver, Nobody, Only, Several, with_giver, giver_below}

below_next : (u n : ℕ) → u < suc n → (u ≡ n) ⊎ (u < n)
below_next u n h = grind arith

abbrev node_of : ℕ → Giver → ℕ
node_of d Nobody = d
node_of d (Only g) = g
node_of d Several = d

only_alike : (f g : ℕ) → Only f ≡ Only g → f ≡ g
only_alike f g e = ap (node_of f) e

with_any : (f : ℕ) (o : Giver) → (with_giver f o ≡ Only f) ⊎ (with_giver f o ≡ Several)
with_any f Nobody = inl refl
with_any f (Only g) =
    elim (cases_eq g f) as (λ _. (with_giver f (Only g) ≡ Only f) ⊎ (with_giver f (Only g) ≡ Several)) [
      | inl e ↦ inl (cond-true (g == f) (Only g) Several (eq-eqb g f e) ∙ ap Only e)
      | inr ne ↦ inr (cond-false (g == f) (Only g) Several (ne_eqb g f ne))
    ]
with_any f Several = inr refl

module _ (head : ℕ → ℕ) (P : ℕ → Bool) where
  gives_now : (n : ℕ) → P n ≡ true → giver_below head P (suc n) ≡ with_giver (head n) (giver_below head P n)
  gives_now n t = cond-true (P n) (with_giver (head n) (giver_below head P n)) (giver_below head P n) t

  gives_on : (n : ℕ) → P n ≡ false → giver_below head P (suc n) ≡ giver_below head P n
  gives_on n f = cond-false (P n) (with_giver (head n) (giver_below head P n)) (giver_below head P n) f

  with_same : (g : ℕ) → with_giver g (Only g) ≡ Only g
  with_same g = cond-true (g == g) (Only g) Several (eq-eqb g g refl)

  -- where each that passes is in g's node, there is none or that one
  at_most_one : (g n : ℕ) → ((u : ℕ) → P u ≡ true → head u ≡ g) → (giver_below head P n ≡ Nobody) ⊎ (giver_below head P n ≡ Only g)
  at_most_one g zero h = inl refl
  at_most_one g (suc n) h =
      elim (cases_Bool (P n)) as (λ _. (giver_below head P (suc n) ≡ Nobody) ⊎ (giver_below head P (suc n) ≡ Only g)) [
        | inl t ↦
            inr (gives_now n t ∙ (ap (λ m. with_giver m (giver_below head P n)) (h n t)
            ∙ elim (at_most_one g n h) as (λ _. with_giver g (giver_below head P n) ≡ Only g) [
              | inl e ↦ ap (with_giver g) e
              | inr e ↦ ap (with_giver g) e ∙ with_same g
            ]))
        | inr f ↦
            elim (at_most_one g n h) as (λ _. (giver_below head P (suc n) ≡ Nobody) ⊎ (giver_below head P (suc n) ≡ Only g)) [
              | inl e ↦ inl (gives_on n f ∙ e)
              | inr e ↦ inr (gives_on n f ∙ e)
            ]
      ]

  pub only_one : (g n u : ℕ) → ((w : ℕ) → P w ≡ true → head w ≡ g) → u < n → P u ≡ true → giver_below head P n ≡ Only g
  only_one g zero u h l p = absurd (omega (arith, l))
  only_one g (suc n) u h l p =
      elim (cases_Bool (P n)) as (λ _. giver_below head P (suc n) ≡ Only g) [
        | inl t ↦
            gives_now n t ∙ (ap (λ m. with_giver m (giver_below head P n)) (h n t)
            ∙ elim (at_most_one g n h) as (λ _. with_giver g (giver_below head P n) ≡ Only g) [
              | inl e ↦ ap (with_giver g) e
              | inr e ↦ ap (with_giver g) e ∙ with_same g
            ])
        | inr f ↦
            elim (below_next u n l) as (λ _. giver_below head P (suc n) ≡ Only g) [
              | inl e ↦ absurd (false≢true (sym f ∙ (ap P (sym e) ∙ p)))
              | inr m ↦ gives_on n f ∙ only_one g n u h m p
            ]
      ]

  pub nobody : (n : ℕ) → ((u : ℕ) → P u ≡ false) → giver_below head P n ≡ Nobody
  nobody zero h = refl
  nobody (suc n) h = gives_on n (h n) ∙ nobody n h

  -- a source's node is the giver, or there are several
  covers : (n u : ℕ) → u < n → P u ≡ true → (giver_below head P n ≡ Only (head u)) ⊎ (giver_below head P n ≡ Several)
  covers zero u l p = absurd (omega (arith, l))
  covers (suc n) u l p =
      elim (cases_Bool (P n)) as (λ _. (giver_below head P (suc n) ≡ Only (head u)) ⊎ (giver_below head P (suc n) ≡ Several)) [
        | inl t ↦
            elim (below_next u n l) as (λ _. (giver_below head P (suc n) ≡ Only (head u)) ⊎ (giver_below head P (suc n) ≡ Several)) [
              | inl e ↦
                  elim (with_any (head n) (giver_below head P n)) as (λ _. (giver_below head P (suc n) ≡ Only (head u)) ⊎
                  (giver_below head P (suc n) ≡ Several)) [
                    | inl x ↦ inl (gives_now n t ∙ (x ∙ ap (λ m. Only (head m)) (sym e)))
                    | inr x ↦ inr (gives_now n t ∙ x)
                  ]
              | inr m ↦
                  elim (covers n u m p) as (λ _. (giver_below head P (suc n) ≡ Only (head u)) ⊎ (giver_below head P (suc n) ≡ Several)) [
                    | inl x ↦
                        elim (cases_eq (head u) (head n)) as (λ _. (giver_below head P (suc n) ≡ Only (head u)) ⊎
                        (giver_below head P (suc n) ≡ Several)) [
                          | inl s ↦ inl (gives_now n t ∙ (ap (with_giver (head n)) x ∙ cond-true (head u == head n) (Only (head u)) Several
                              (eq-eqb (head u) (head n) s)))
                          | inr d ↦ inr (gives_now n t ∙ (ap (with_giver (head n)) x ∙ cond-false (head u == head n) (Only (head u)) Several
                              (ne_eqb (head u) (head n) d)))
                        ]
                    | inr x ↦ inr (gives_now n t ∙ ap (with_giver (head n)) x)
                  ]
            ]
        | inr f ↦
            elim (below_next u n l) as (λ _. (giver_below head P (suc n) ≡ Only (head u)) ⊎ (giver_below head P (suc n) ≡ Several)) [
              | inl e ↦ absurd (false≢true (sym f ∙ (ap P (sym e) ∙ p)))
              | inr m ↦
                  elim (covers n u m p) as (λ _. (giver_below head P (suc n) ≡ Only (head u)) ⊎ (giver_below head P (suc n) ≡ Several)) [
                    | inl x ↦ inl (gives_on n f ∙ x)
                    | inr x ↦ inr (gives_on n f ∙ x)
                  ]
            ]
      ]

  -- two sources in different nodes are several
  pub several : (n u w : ℕ) → u < n → w < n → P u ≡ true → P w ≡ true → head u ≢ head w → giver_below head P n ≡ Several
  several n u w l m p q ne =
      elim (covers n u l p) as (λ _. giver_below head P n ≡ Several) [
        | inl x ↦
            elim (covers n w m q) as (λ _. giver_below head P n ≡ Several) [
              | inl y ↦ absurd (ne (only_alike (head u) (head w) (sym x ∙ y)))
              | inr y ↦ y
            ]
        | inr x ↦ x
      ]
