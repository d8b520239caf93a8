-- Lists that ascend by a rank.
use Rattle.std.proofs.Common.{◌≡◌, refl, sym, ap, ◌∙◌, subst, ℕ, ◌<◌, ◌⊎◌, inl, inr, true, false, List, [], ◌∷◌, ◌++◌, arith}
use Rattle.std.specs.Prelude.{◌≢◌, nat_eq}
use Rattle.std.proofs.lemmas.Bool.{cases_eq, cases_Bool, or_cases, or_left, or_right, cond-true, cond-false, eqb-true}
use Rattle.std.proofs.lemmas.Bool.{eq-eqb, ne_eqb, false≢true}
use Rattle.graph_search.specs.NodeLists.{holds, Distinct}
use Rattle.graph_search.proofs.ListLemmas.{nat_equality, holds_left, holds_right, holds_parts, holds_one, holds_first}
use Rattle.graph_search.specs.Orders.{Rising}

module _ (f : ℕ → ℕ) where
  pub rising_end : (xs : List ℕ) (d : ℕ) → Rising f xs → ((x : ℕ) → holds nat_eq x xs ≡ true → f x < f d) → Rising f
      (xs ++ d ∷ [])
  rising_end [] d r h = ((λ y k. absurd (false≢true k)), tt)
  rising_end (x ∷ xs) d r h = (
    (λ y k.
        elim (holds_parts ℕ nat_equality y xs (d ∷ []) k) as (λ _. f x < f y) [
          | inl a ↦ r.0 y a
          | inr b ↦ subst (λ z. f x < f z) (sym (holds_one ℕ nat_equality y d b))
              (h x (holds_first ℕ nat_equality x xs))
        ]),
    rising_end xs d r.1 (λ y k. h y (or_right (nat_eq y x) (holds nat_eq y xs) k)),
  )

  pub rising_front : (xs : List ℕ) (d : ℕ) (ys : List ℕ) → Rising f (xs ++ d ∷ ys) → Rising f (xs ++ d ∷ [])
  rising_front [] d ys r = ((λ y k. absurd (false≢true k)), tt)
  rising_front (x ∷ xs) d ys r = (
    (λ y k.
        r.0 y (elim (holds_parts ℕ nat_equality y xs (d ∷ []) k) as (λ _. holds nat_eq y (xs ++ d ∷ ys) ≡ true) [
          | inl a ↦ holds_left ℕ nat_equality y xs (d ∷ ys) a
          | inr b ↦ holds_right ℕ nat_equality y xs (d ∷ ys)
              (or_left (nat_eq y d) (holds nat_eq y ys) (eq-eqb y d (holds_one ℕ nat_equality y d b)))
        ])),
    rising_front xs d ys r.1,
  )

  pub rising_before : (xs : List ℕ) (d : ℕ) (ys : List ℕ) → Rising f (xs ++ d ∷ ys) → (x : ℕ) → holds nat_eq x xs ≡ true
      → f x < f d
  rising_before [] d ys r x h = absurd (false≢true h)
  rising_before (z ∷ xs) d ys r x h =
      elim (or_cases (nat_eq x z) (holds nat_eq x xs) h) as (λ _. f x < f d) [
        | inl a ↦ subst (λ y. f y < f d) (sym (eqb-true x z a))
            (r.0 d (holds_right ℕ nat_equality d xs (d ∷ ys) (holds_first ℕ nat_equality d ys)))
        | inr b ↦ rising_before xs d ys r.1 x b
      ]

  pub rising_behind : (xs : List ℕ) (d : ℕ) (ys : List ℕ) → Rising f (xs ++ d ∷ ys) → (y : ℕ) → holds nat_eq y ys ≡ true
      → f d < f y
  rising_behind [] d ys r y h = r.0 y h
  rising_behind (z ∷ xs) d ys r y h = rising_behind xs d ys r.1 y h

  pub rising_distinct : (xs : List ℕ) → Rising f xs → Distinct nat_eq xs
  rising_distinct [] r = tt
  rising_distinct (x ∷ xs) r = (
    elim (cases_Bool (holds nat_eq x xs)) as (λ _. holds nat_eq x xs ≡ false) [
      | inl t ↦ let less = r.0 x t in absurd (omega (arith, less))
      | inr g ↦ g
    ],
    rising_distinct xs r.1,
  )

  -- a number of the rest of the second list, where the first numbers are the same
  rest_in : (x y : ℕ) (xs ys : List ℕ) → x ≡ y → ((z : ℕ) → holds nat_eq z xs ≡ true → f x < f z) →
      ((z : ℕ) → holds nat_eq z (x ∷ xs) ≡ true → holds nat_eq z (y ∷ ys) ≡ true) → (z : ℕ) → holds nat_eq z xs ≡ true
      → holds nat_eq z ys ≡ true
  rest_in x y xs ys e up h z k =
      elim (or_cases (nat_eq z y) (holds nat_eq z ys) (h z (or_right (nat_eq z x) (holds nat_eq z xs) k))) as
      (λ _. holds nat_eq z ys ≡ true) [
        | inl a ↦
            let less = up z k in
            let same : f z ≡ f x = ap f (eqb-true z y a ∙ sym e) in
            absurd (omega (arith, less, same))
        | inr b ↦ b
      ]

  -- two rising lists with the same numbers are one
  pub rising_same : (xs ys : List ℕ) → Rising f xs → Rising f ys →
      ((z : ℕ) → holds nat_eq z xs ≡ true → holds nat_eq z ys ≡ true) →
      ((z : ℕ) → holds nat_eq z ys ≡ true → holds nat_eq z xs ≡ true) → xs ≡ ys
  rising_same [] [] r s h k = refl
  rising_same [] (y ∷ ys) r s h k = absurd (false≢true (k y (holds_first ℕ nat_equality y ys)))
  rising_same (x ∷ xs) [] r s h k = absurd (false≢true (h x (holds_first ℕ nat_equality x xs)))
  rising_same (x ∷ xs) (y ∷ ys) r s h k =
      let e : x ≡ y =
      elim (or_cases (nat_eq x y) (holds nat_eq x ys) (h x (holds_first ℕ nat_equality x xs))) as (λ _. x ≡ y) [
        | inl a ↦ eqb-true x y a
        | inr b ↦
            elim (or_cases (nat_eq y x) (holds nat_eq y xs) (k y (holds_first ℕ nat_equality y ys))) as (λ _. x ≡ y) [
              | inl c ↦ sym (eqb-true y x c)
              | inr d ↦
                  let one = s.0 x b in
                  let two = r.0 y d in
                  absurd (omega (arith, one, two))
            ]
      ] in
      ap (λ z. z ∷ xs) e ∙ ap (λ zs. y ∷ zs) (rising_same xs ys r.1 s.1 (rest_in x y xs ys e r.0 h)
      (rest_in y x ys xs (sym e) s.0 k))
