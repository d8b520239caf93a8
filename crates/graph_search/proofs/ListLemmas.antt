-- Lists of points without repetition.
use Rattle.std.proofs.Common.{◌≡◌, refl, sym, ap, ◌∙◌, subst, ℕ, zero, suc, ◌+◌, ◌<◌, ◌≤◌, ◌⊎◌, inl, inr, Bool, true}
use Rattle.std.proofs.Common.{false, List, [], ◌∷◌, ◌++◌, length, take, arith}
use Rattle.std.specs.Prelude.{◌||◌, if◌then◌else◌, nat_eq, cond}
use Rattle.std.proofs.lemmas.Bool.{cases_Bool, or_cases, or_parts, or_from, or_left, or_right, cond-true, cond-false}
use Rattle.std.proofs.lemmas.Bool.{false≢true}
use Rattle.std.proofs.lemmas.List.{append-nil, append_assoc, length-append}
use Rattle.std.specs.Ordering.{nat_cmp}
use Rattle.std.specs.BTreeMap.{is_at}
use Rattle.std.specs.BTreeSet as tree
use Rattle.std.specs.BTreeSet.{BTreeSet}
use Rattle.std.proofs.lemmas.Bool.{eqb-true, eq-eqb}
use Rattle.std.proofs.lemmas.Bool.Decides.{nat_tests}
use Rattle.graph_search.specs.NodeLists.{Equality, holds, Distinct, added, added_all}

module _ (A : Type 0) (q : Equality A) where
  pub holds_left : (x : A) (ps qs : List A) → holds q.same x ps ≡ true → holds q.same x (ps ++ qs) ≡ true
  holds_left x [] qs h = absurd (false≢true h)
  holds_left x (p ∷ ps) qs h =
      elim (or_cases (q.same x p) (holds q.same x ps) h) as (λ _. holds q.same x (p ∷ ps ++ qs) ≡ true) [
        | inl a ↦ or_left (q.same x p) (holds q.same x (ps ++ qs)) a
        | inr b ↦ or_right (q.same x p) (holds q.same x (ps ++ qs)) (holds_left x ps qs b)
      ]

  pub holds_right : (x : A) (ps qs : List A) → holds q.same x qs ≡ true → holds q.same x (ps ++ qs) ≡ true
  holds_right x [] qs h = h
  holds_right x (p ∷ ps) qs h = or_right (q.same x p) (holds q.same x (ps ++ qs)) (holds_right x ps qs h)

  pub holds_parts : (x : A) (ps qs : List A) → holds q.same x (ps ++ qs) ≡ true → (holds q.same x ps ≡ true) ⊎
      (holds q.same x qs ≡ true)
  holds_parts x [] qs h = inr h
  holds_parts x (p ∷ ps) qs h =
      elim (or_cases (q.same x p) (holds q.same x (ps ++ qs)) h) as
      (λ _. (holds q.same x (p ∷ ps) ≡ true) ⊎ (holds q.same x qs ≡ true)) [
        | inl a ↦ inl (or_left (q.same x p) (holds q.same x ps) a)
        | inr b ↦
            elim (holds_parts x ps qs b) as (λ _. (holds q.same x (p ∷ ps) ≡ true) ⊎ (holds q.same x qs ≡ true)) [
              | inl c ↦ inl (or_right (q.same x p) (holds q.same x ps) c)
              | inr d ↦ inr d
            ]
      ]

  pub holds_one : (x p : A) → holds q.same x (p ∷ []) ≡ true → x ≡ p
  holds_one x p h =
      elim (or_cases (q.same x p) false h) as (λ _. x ≡ p) [
        | inl a ↦ q.exact x p a
        | inr b ↦ absurd (false≢true b)
      ]

  pub holds_first : (p : A) (ps : List A) → holds q.same p (p ∷ ps) ≡ true
  holds_first p ps = or_left (q.same p p) (holds q.same p ps) (q.itself p)

  -- what holds of a list's point, where it is another point's name
  pub apart : (x p : A) (ps : List A) → holds q.same x ps ≡ true → holds q.same p ps ≡ false → q.same x p ≡ false
  apart x p ps h none =
      elim (cases_Bool (q.same x p)) as (λ _. q.same x p ≡ false) [
        | inl t ↦ absurd (false≢true (sym none ∙ subst (λ y. holds q.same y ps ≡ true) (q.exact x p t) h))
        | inr f ↦ f
      ]

  -- ---- one point more

  kept_by_added : (x p : A) (ps : List A) → holds q.same x ps ≡ true → holds q.same x (added q.same ps p) ≡ true
  kept_by_added x p ps h =
      elim (cases_Bool (holds q.same p ps)) as (λ _. holds q.same x (added q.same ps p) ≡ true) [
        | inl t ↦ subst (λ ys. holds q.same x ys ≡ true) (sym (cond-true (holds q.same p ps) ps (ps ++ p ∷ []) t)) h
        | inr f ↦ subst (λ ys. holds q.same x ys ≡ true) (sym (cond-false (holds q.same p ps) ps (ps ++ p ∷ []) f))
            (holds_left x ps (p ∷ []) h)
      ]

  holds_added : (p : A) (ps : List A) → holds q.same p (added q.same ps p) ≡ true
  holds_added p ps =
      elim (cases_Bool (holds q.same p ps)) as (λ _. holds q.same p (added q.same ps p) ≡ true) [
        | inl t ↦ subst (λ ys. holds q.same p ys ≡ true) (sym (cond-true (holds q.same p ps) ps (ps ++ p ∷ []) t)) t
        | inr f ↦ subst (λ ys. holds q.same p ys ≡ true) (sym (cond-false (holds q.same p ps) ps (ps ++ p ∷ []) f))
            (holds_right p ps (p ∷ []) (holds_first p []))
      ]

  from_added : (x p : A) (ps : List A) → holds q.same x (added q.same ps p) ≡ true → (holds q.same x ps ≡ true) ⊎
      (x ≡ p)
  from_added x p ps h =
      elim (cases_Bool (holds q.same p ps)) as (λ _. (holds q.same x ps ≡ true) ⊎ (x ≡ p)) [
        | inl t ↦ inl (subst (λ ys. holds q.same x ys ≡ true) (cond-true (holds q.same p ps) ps (ps ++ p ∷ []) t) h)
        | inr f ↦
            elim (holds_parts x ps (p ∷ []) (subst (λ ys. holds q.same x ys ≡ true)
            (cond-false (holds q.same p ps) ps (ps ++ p ∷ []) f) h)) as
            (λ _. (holds q.same x ps ≡ true) ⊎ (x ≡ p)) [
              | inl a ↦ inl a
              | inr b ↦ inr (holds_one x p b)
            ]
      ]

  pub distinct_end : (p : A) (ps : List A) → Distinct q.same ps → holds q.same p ps ≡ false → Distinct q.same
      (ps ++ p ∷ [])
  distinct_end p [] d f = (refl, tt)
  distinct_end p (x ∷ ps) d f =
      let parts = or_parts (q.same p x) (holds q.same p ps) f in (
        elim (cases_Bool (holds q.same x (ps ++ p ∷ []))) as (λ _. holds q.same x (ps ++ p ∷ []) ≡ false) [
          | inl t ↦
              elim (holds_parts x ps (p ∷ []) t) as (λ _. holds q.same x (ps ++ p ∷ []) ≡ false) [
                | inl a ↦ absurd (false≢true (sym d.0 ∙ a))
                | inr b ↦ absurd (false≢true (sym parts.0 ∙ subst (λ y. q.same y x ≡ true) (holds_one x p b)
                    (q.itself x)))
              ]
          | inr g ↦ g
        ],
        distinct_end p ps d.1 parts.1,
      )

  distinct_added : (p : A) (ps : List A) → Distinct q.same ps → Distinct q.same (added q.same ps p)
  distinct_added p ps d =
      elim (cases_Bool (holds q.same p ps)) as (λ _. Distinct q.same (added q.same ps p)) [
        | inl t ↦ subst (λ ys. Distinct q.same ys) (sym (cond-true (holds q.same p ps) ps (ps ++ p ∷ []) t)) d
        | inr f ↦ subst (λ ys. Distinct q.same ys) (sym (cond-false (holds q.same p ps) ps (ps ++ p ∷ []) f))
            (distinct_end p ps d f)
      ]

  goes_on : (p : A) (ps : List A) → (more : List A) × (added q.same ps p ≡ ps ++ more)
  goes_on p ps =
      elim (cases_Bool (holds q.same p ps)) as (λ _. (more : List A) × (added q.same ps p ≡ ps ++ more)) [
        | inl t ↦ ([], cond-true (holds q.same p ps) ps (ps ++ p ∷ []) t ∙ sym (append-nil ps))
        | inr f ↦ (p ∷ [], cond-false (holds q.same p ps) ps (ps ++ p ∷ []) f)
      ]

  -- ---- several more

  pub kept_by_all : (x : A) (ps new : List A) → holds q.same x ps ≡ true → holds q.same x (added_all q.same ps new)
      ≡ true
  kept_by_all x ps [] h = h
  kept_by_all x ps (p ∷ new) h = kept_by_all x (added q.same ps p) new (kept_by_added x p ps h)

  pub holds_all : (x : A) (ps new : List A) → holds q.same x new ≡ true → holds q.same x (added_all q.same ps new)
      ≡ true
  holds_all x ps [] h = absurd (false≢true h)
  holds_all x ps (p ∷ new) h =
      elim (or_cases (q.same x p) (holds q.same x new) h) as
      (λ _. holds q.same x (added_all q.same ps (p ∷ new)) ≡ true) [
        | inl a ↦ kept_by_all x (added q.same ps p) new (subst (λ y. holds q.same y (added q.same ps p) ≡ true)
            (sym (q.exact x p a)) (holds_added p ps))
        | inr b ↦ holds_all x (added q.same ps p) new b
      ]

  pub from_all : (x : A) (ps new : List A) → holds q.same x (added_all q.same ps new) ≡ true →
      (holds q.same x ps ≡ true) ⊎ (holds q.same x new ≡ true)
  from_all x ps [] h = inl h
  from_all x ps (p ∷ new) h =
      elim (from_all x (added q.same ps p) new h) as (λ _. (holds q.same x ps ≡ true) ⊎
      (holds q.same x (p ∷ new) ≡ true)) [
        | inl a ↦
            elim (from_added x p ps a) as (λ _. (holds q.same x ps ≡ true) ⊎ (holds q.same x (p ∷ new) ≡ true)) [
              | inl c ↦ inl c
              | inr e ↦ inr (subst (λ y. holds q.same y (p ∷ new) ≡ true) (sym e) (holds_first p new))
            ]
        | inr b ↦ inr (or_right (q.same x p) (holds q.same x new) b)
      ]

  pub distinct_all : (ps new : List A) → Distinct q.same ps → Distinct q.same (added_all q.same ps new)
  distinct_all ps [] d = d
  distinct_all ps (p ∷ new) d = distinct_all (added q.same ps p) new (distinct_added p ps d)

  pub all_go_on : (ps new : List A) → (more : List A) × (added_all q.same ps new ≡ ps ++ more)
  all_go_on ps [] = ([], sym (append-nil ps))
  all_go_on ps (p ∷ new) =
      let one = goes_on p ps in
      let rest = all_go_on (added q.same ps p) new in
      (one.0 ++ rest.0, rest.1 ∙ ap (λ ys. ys ++ rest.0) one.1 ∙ append_assoc ps one.0 rest.0)

  -- ---- a list of distinct points has no more than a list that holds them

  abbrev pub without : A → List A → List A
  without p [] = []
  without p (x ∷ xs) = if q.same p x then xs else x ∷ without p xs

  without_length : (p : A) (xs : List A) → holds q.same p xs ≡ true → length xs ≡ suc (length (without p xs))
  without_length p [] h = absurd (false≢true h)
  without_length p (x ∷ xs) h =
      elim (cases_Bool (q.same p x)) as (λ _. length (x ∷ xs) ≡ suc (length (without p (x ∷ xs)))) [
        | inl t ↦ ap suc (ap length (sym (cond-true (q.same p x) xs (x ∷ without p xs) t)))
        | inr f ↦
            elim (or_cases (q.same p x) (holds q.same p xs) h) as
            (λ _. length (x ∷ xs) ≡ suc (length (without p (x ∷ xs)))) [
              | inl a ↦ absurd (false≢true (sym f ∙ a))
              | inr b ↦ ap suc (without_length p xs b) ∙ ap suc
                  (ap length (sym (cond-false (q.same p x) xs (x ∷ without p xs) f)))
            ]
      ]

  without_holds : (p y : A) (xs : List A) → q.same y p ≡ false → holds q.same y xs ≡ true → holds q.same y
      (without p xs) ≡ true
  without_holds p y [] ne h = h
  without_holds p y (x ∷ xs) ne h =
      elim (cases_Bool (q.same p x)) as (λ _. holds q.same y (without p (x ∷ xs)) ≡ true) [
        | inl t ↦
            subst (λ ys. holds q.same y ys ≡ true) (sym (cond-true (q.same p x) xs (x ∷ without p xs) t))
            (elim (or_cases (q.same y x) (holds q.same y xs) h) as (λ _. holds q.same y xs ≡ true) [
              | inl a ↦ absurd (false≢true (sym ne ∙ subst (λ z. q.same y z ≡ true) (sym (q.exact p x t)) a))
              | inr b ↦ b
            ])
        | inr f ↦
            subst (λ ys. holds q.same y ys ≡ true) (sym (cond-false (q.same p x) xs (x ∷ without p xs) f))
            (elim (or_cases (q.same y x) (holds q.same y xs) h) as (λ _. holds q.same y (x ∷ without p xs) ≡ true) [
              | inl a ↦ or_left (q.same y x) (holds q.same y (without p xs)) a
              | inr b ↦ or_right (q.same y x) (holds q.same y (without p xs)) (without_holds p y xs ne b)
            ])
      ]

  pub no_more : (ps qs : List A) → Distinct q.same ps → ((p : A) → holds q.same p ps ≡ true → holds q.same p qs ≡ true)
      → length ps ≤ length qs
  no_more [] qs d h = omega arith
  no_more (p ∷ ps) qs d h =
      let less = without_length p qs (h p (holds_first p ps)) in
      let rest = no_more ps (without p qs) d.1 (λ x k. without_holds p x qs (apart x p ps k d.0)
      (h x (or_right (q.same x p) (holds q.same x ps) k))) in
      omega (arith, less, rest)

-- ---- of numbers

same_key : (p x : ℕ) → is_at (nat_cmp p) x ≡ nat_eq x p
same_key p x = grind (arith, nat_tests)

abbrev pub nat_equality : Equality ℕ
nat_equality = record { same = nat_eq; exact = eqb-true; itself = λ a. eq-eqb a a refl }

one_last : (a b : Bool) → (a || false) ≡ cond a true false
one_last true b = refl
one_last false b = refl

one_before : (a b c : Bool) → (a || cond b true c) ≡ cond b true (a || c)
one_before true true c = refl
one_before true false c = refl
one_before false true c = refl
one_before false false c = refl

holds_push : (x p : ℕ) (xs : List ℕ) → holds nat_eq x (xs ++ p ∷ []) ≡ cond (nat_eq x p) true (holds nat_eq x xs)
holds_push x p [] = one_last (nat_eq x p) false
holds_push x p (y ∷ xs) = ap (λ b. nat_eq x y || b) (holds_push x p xs) ∙ one_before (nat_eq x y) (nat_eq x p)
    (holds nat_eq x xs)

-- a set that has a list's points has them after one point more
pub pushed_set : (s n : BTreeSet ℕ) (xs ys : List ℕ) (p : ℕ) → ys ≡ xs ++ p ∷ [] →
    ((q : ℕ) → tree.contains nat_cmp s q ≡ holds nat_eq q xs)
    → ((q : ℕ) → tree.contains nat_cmp n q ≡ cond (is_at (nat_cmp p) q) true (tree.contains nat_cmp s q)) → (q : ℕ)
    → tree.contains nat_cmp n q ≡ holds nat_eq q ys
pushed_set s n xs ys p e h u q =
    u q ∙ (ap (λ b. cond b true (tree.contains nat_cmp s q)) (same_key p q) ∙ (ap (λ b. cond (nat_eq q p) true b) (h q)
    ∙ (sym (holds_push q p xs) ∙ ap (holds nat_eq q) (sym e))))
