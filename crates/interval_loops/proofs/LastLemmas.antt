-- Lists of numbers: what stands before and after a number, and lists that rise.
use Rattle.std.proofs.Common.{◌≡◌, refl, sym, ap, ◌∙◌, subst, ℕ, ◌<◌, ◌⊎◌, inl, inr, true, false, List, [], ◌∷◌, ◌++◌, arith}
use Rattle.std.specs.Prelude.{◌≢◌, nat_eq}
use Rattle.std.proofs.lemmas.Bool.{cases_eq, cases_Bool, or_cases, or_left, or_right, cond-true, cond-false, eqb-true, eq-eqb, ne_eqb}
use Rattle.std.proofs.lemmas.Bool.{false≢true}
use Rattle.graph_search.specs.NodeLists.{holds, Distinct}
use Rattle.graph_search.proofs.ListLemmas.{nat_equality, holds_left, holds_right, holds_parts, holds_one, holds_first}
use Rattle.interval_loops.specs.Rounds.{last_or, after}
use Rattle.graph_search.specs.Orders.{Rising}

-- the list in two parts at a number that it has
pub split : (d : ℕ) (xs : List ℕ) → holds nat_eq d xs ≡ true → (fs : List ℕ) × (bs : List ℕ) × (xs ≡ fs ++ d ∷ bs)
split d [] h = absurd (false≢true h)
split d (x ∷ xs) h =
    elim (or_cases (nat_eq d x) (holds nat_eq d xs) h) as (λ _. (fs : List ℕ) × (bs : List ℕ) × (x ∷ xs ≡ fs ++ d ∷ bs)) [
      | inl a ↦ ([], xs, ap (λ y. y ∷ xs) (sym (eqb-true d x a)))
      | inr b ↦ let r = split d xs b in (x ∷ r.0, r.1, ap (λ ys. x ∷ ys) r.2)
    ]

pub last_over : (p : ℕ) (xs : List ℕ) (d : ℕ) (ys : List ℕ) → last_or p (xs ++ d ∷ ys) ≡ last_or d ys
last_over p [] d ys = refl
last_over p (x ∷ xs) d ys = last_over x xs d ys

pub last_in : (p : ℕ) (xs : List ℕ) → holds nat_eq (last_or p xs) (p ∷ xs) ≡ true
last_in p [] = holds_first ℕ nat_equality p []
last_in p (x ∷ xs) = or_right (nat_eq (last_or x xs) p) (holds nat_eq (last_or x xs) (x ∷ xs)) (last_in x xs)

-- a list is empty or has a last number
pub ended : (p : ℕ) (xs : List ℕ) → (xs ≡ []) ⊎ ((fs : List ℕ) × (xs ≡ fs ++ last_or p xs ∷ []))
ended p [] = inl refl
ended p (x ∷ xs) =
    elim (ended x xs) as (λ _. (x ∷ xs ≡ []) ⊎ ((fs : List ℕ) × (x ∷ xs ≡ fs ++ last_or x xs ∷ []))) [
      | inl e ↦ inr ([], ap (λ ys. x ∷ ys) e ∙ ap (λ y. y ∷ []) (sym (ap (last_or x) e)))
      | inr r ↦ inr (x ∷ r.0, ap (λ ys. x ∷ ys) r.1)
    ]

-- the number after one that isn't the last
pub next_one : (p : ℕ) (xs : List ℕ) (c : ℕ) → holds nat_eq c (p ∷ xs) ≡ true → last_or p xs ≢ c
    → (ws : List ℕ) × (d : ℕ) × (zs : List ℕ) × (xs ≡ ws ++ d ∷ zs) × (last_or p ws ≡ c) × (after c (p ∷ xs) ≡ d)
next_one p [] c h ne = absurd (ne (sym (holds_one ℕ nat_equality c p h)))
next_one p (x ∷ xs) c h ne =
    elim (cases_eq p c) as (λ _. (ws : List ℕ) × (d : ℕ) × (zs : List ℕ) × (x ∷ xs ≡ ws ++ d ∷ zs) × (last_or p ws ≡ c) ×
    (after c (p ∷ x ∷ xs) ≡ d)) [
      | inl e ↦ ([], x, xs, refl, e, cond-true (nat_eq p c) x (after c (x ∷ xs)) (eq-eqb p c e))
      | inr f ↦
          elim (or_cases (nat_eq c p) (holds nat_eq c (x ∷ xs)) h) as (λ _. (ws : List ℕ) × (d : ℕ) × (zs : List ℕ) ×
          (x ∷ xs ≡ ws ++ d ∷ zs) × (last_or p ws ≡ c) × (after c (p ∷ x ∷ xs) ≡ d)) [
            | inl a ↦ absurd (f (sym (eqb-true c p a)))
            | inr b ↦
                let r = next_one x xs c b ne in
                (x ∷ r.0, r.1, r.2, ap (λ ys. x ∷ ys) r.3, r.4, cond-false (nat_eq p c) x (after c (x ∷ xs)) (ne_eqb p c f) ∙ r.5)
          ]
    ]

-- a number in a list of different ones, and the one before it
pub one_before : (q : ℕ) (xs : List ℕ) (d : ℕ) (ys : List ℕ) → Distinct nat_eq (q ∷ xs ++ d ∷ ys)
    → (last_or q (xs ++ d ∷ ys) ≢ last_or q xs) × (after (last_or q xs) (q ∷ xs ++ d ∷ ys) ≡ d)
one_before q [] d ys h = (
  (λ e. false≢true (sym h.0 ∙ subst (λ x. holds nat_eq x (d ∷ ys) ≡ true) e (last_in d ys))),
  cond-true (nat_eq q q) d (after q (d ∷ ys))
      (eq-eqb q q refl),
)
one_before q (x ∷ xs) d ys h =
    let r = one_before x xs d ys h.1 in
    let l : holds nat_eq (last_or x xs) (x ∷ xs ++ d ∷ ys) ≡ true = holds_left ℕ nat_equality (last_or x xs) (x ∷ xs) (d ∷ ys)
    (last_in x xs) in
    let ne : q ≢ last_or x xs = (λ e. false≢true (sym h.0 ∙ subst (λ y. holds nat_eq y (x ∷ xs ++ d ∷ ys) ≡ true) (sym e) l)) in
    (r.0, cond-false (nat_eq q (last_or x xs)) x (after (last_or x xs) (x ∷ xs ++ d ∷ ys)) (ne_eqb q (last_or x xs) ne) ∙ r.1)
