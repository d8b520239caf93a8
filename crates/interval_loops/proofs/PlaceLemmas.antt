-- Places in lists.
use Rattle.std.proofs.Common.{◌≡◌, refl, sym, ap, ◌∙◌, subst, ℕ, zero, suc, ◌<◌, ◌≤◌, ◌⊎◌, inl, inr, Bool, true, false, List, [], ◌∷◌, ◌++◌}
use Rattle.std.proofs.Common.{length, take, arith}
use Rattle.std.specs.Prelude.{◌≢◌, nat_eq, if◌then◌else◌, Some, slice_get}
use Rattle.std.proofs.lemmas.Bool.{cases_eq, cases_Bool, or_cases, or_left, or_right, cond-true, cond-false, eqb-true, eq-eqb, false≢true}
use Rattle.graph_search.specs.NodeLists.{holds, Distinct}
use Rattle.graph_search.proofs.ListLemmas.{nat_equality, no_more}
use Rattle.interval_loops.specs.BlockOrders.{place}

-- what the first places of a list have, those of a longer one have
pub take_longer : (u i : ℕ) (xs ys : List ℕ) → holds nat_eq u (take i xs) ≡ true → holds nat_eq u (take i (xs ++ ys)) ≡ true
take_longer u zero xs ys h = absurd (false≢true h)
take_longer u (suc i) [] ys h = absurd (false≢true h)
take_longer u (suc i) (x ∷ xs) ys h =
    elim (or_cases (nat_eq u x) (holds nat_eq u (take i xs)) h) as (λ _. holds nat_eq u (take (suc i) (x ∷ xs ++ ys)) ≡ true) [
      | inl a ↦ or_left (nat_eq u x) (holds nat_eq u (take i (xs ++ ys))) a
      | inr b ↦ or_right (nat_eq u x) (holds nat_eq u (take i (xs ++ ys))) (take_longer u i xs ys b)
    ]

-- what the first places have, more places have
pub take_more : (u i j : ℕ) (xs : List ℕ) → i ≤ j → holds nat_eq u (take i xs) ≡ true → holds nat_eq u (take j xs) ≡ true
take_more u zero j xs l h = absurd (false≢true h)
take_more u (suc i) zero xs l h = absurd (omega (arith, l))
take_more u (suc i) (suc j) [] l h = h
take_more u (suc i) (suc j) (x ∷ xs) l h =
    elim (or_cases (nat_eq u x) (holds nat_eq u (take i xs)) h) as (λ _. holds nat_eq u (take (suc j) (x ∷ xs)) ≡ true) [
      | inl a ↦ or_left (nat_eq u x) (holds nat_eq u (take j xs)) a
      | inr b ↦ or_right (nat_eq u x) (holds nat_eq u (take j xs)) (take_more u i j xs (omega (arith, l)) b)
    ]

-- a place of a list with one number more
pub get_end : (xs : List ℕ) (p i t : ℕ) → slice_get (xs ++ p ∷ []) i ≡ Some t → (slice_get xs i ≡ Some t) ⊎ ((i ≡ length xs) × (t ≡ p))
get_end [] p zero t e = let same : p ≡ t = cc in inr (refl, sym same)
get_end [] p (suc i) t e = absurd (cc)
get_end (x ∷ xs) p zero t e = inl e
get_end (x ∷ xs) p (suc i) t e =
    elim (get_end xs p i t e) as (λ _. (slice_get (x ∷ xs) (suc i) ≡ Some t) ⊎ ((suc i ≡ length (x ∷ xs)) × (t ≡ p))) [
      | inl a ↦ inl a
      | inr b ↦ inr (ap suc b.0, b.1)
    ]

pub get_longer : (xs ys : List ℕ) (i t : ℕ) → slice_get xs i ≡ Some t → slice_get (xs ++ ys) i ≡ Some t
get_longer [] ys i t e = absurd (cc)
get_longer (x ∷ xs) ys zero t e = e
get_longer (x ∷ xs) ys (suc i) t e = get_longer xs ys i t e

pub place_before : (u i : ℕ) (xs : List ℕ) → holds nat_eq u (take i xs) ≡ true → place u xs < i
place_before u zero xs h = absurd (false≢true h)
place_before u (suc i) [] h = absurd (false≢true h)
place_before u (suc i) (x ∷ xs) h =
    elim (cases_Bool (nat_eq u x)) as (λ _. place u (x ∷ xs) < suc i) [
      | inl t ↦ let e = cond-true (nat_eq u x) 0 (suc (place u xs)) t in omega (arith, e)
      | inr f ↦
          let e = cond-false (nat_eq u x) 0 (suc (place u xs)) f in
          elim (or_cases (nat_eq u x) (holds nat_eq u (take i xs)) h) as (λ _. place u (x ∷ xs) < suc i) [
            | inl a ↦ absurd (false≢true (sym f ∙ a))
            | inr b ↦ let r = place_before u i xs b in omega (arith, e, r)
          ]
    ]

pub at_place : (t : ℕ) (xs : List ℕ) → holds nat_eq t xs ≡ true → slice_get xs (place t xs) ≡ Some t
at_place t [] h = absurd (false≢true h)
at_place t (x ∷ xs) h =
    elim (cases_Bool (nat_eq t x)) as (λ _. slice_get (x ∷ xs) (place t (x ∷ xs)) ≡ Some t) [
      | inl e ↦ ap (slice_get (x ∷ xs)) (cond-true (nat_eq t x) 0 (suc (place t xs)) e) ∙ ap Some (sym (eqb-true t x e))
      | inr f ↦
          elim (or_cases (nat_eq t x) (holds nat_eq t xs) h) as (λ _. slice_get (x ∷ xs) (place t (x ∷ xs)) ≡ Some t) [
            | inl a ↦ absurd (false≢true (sym f ∙ a))
            | inr b ↦ ap (slice_get (x ∷ xs)) (cond-false (nat_eq t x) 0 (suc (place t xs)) f) ∙ at_place t xs b
          ]
    ]
