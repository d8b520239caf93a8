-- Rows of a table, and what a search over them finds.
use Rattle.std.proofs.Common.{◌≡◌, ℕ, ◌⊎◌, inl, inr, Bool, true, false, List, [], ◌∷◌, sym, ap, ◌∙◌, subst}
use Rattle.std.specs.Prelude.{nat_eq}
use Rattle.std.specs.List.{filter}
use Rattle.std.proofs.lemmas.Bool.{cases_Bool, or_cases, or_left, or_right, eqb-true, cond-true, cond-false, false≢true}
use Rattle.graph_search.specs.NodeLists.{holds}
use Rattle.persistence.specs.Collected.{IsMet}
use Rattle.persistence.specs.Searches.{IsBackward, TestsFollowing}
use Rattle.persistence.specs.PointRows.{AreOf, line_at}
use Rattle.graph_search.specs.Rows.{row_in}
use Rattle.persistence.specs.Younger.{AtLeast, Code, IsYounger}
use Rattle.persistence.proofs.TraceLemmas.{many_are_met, many_are_younger}

filter_taken : (f : ℕ → Bool) (x : ℕ) (xs : List ℕ) → f x ≡ true → filter f (x ∷ xs) ≡ x ∷ filter f xs
filter_taken f x xs t = cond-true (f x) (x ∷ filter f xs) (filter f xs) t

filter_left : (f : ℕ → Bool) (x : ℕ) (xs : List ℕ) → f x ≡ false → filter f (x ∷ xs) ≡ filter f xs
filter_left f x xs t = cond-false (f x) (x ∷ filter f xs) (filter f xs) t

-- what a filter keeps
pub filter_sound : (f : ℕ → Bool) (q : ℕ) (xs : List ℕ) → holds nat_eq q (filter f xs) ≡ true → (f q ≡ true) × (holds nat_eq q xs ≡ true)
filter_sound f q [] h = absurd (false≢true h)
filter_sound f q (x ∷ xs) h = by_test (filter_sound f q xs) (cases_Bool (f x))
  where
    by_test : (holds nat_eq q (filter f xs) ≡ true → (f q ≡ true) × (holds nat_eq q xs ≡ true)) → (f x ≡ true) ⊎ (f x ≡ false)
        → (f q ≡ true) × (holds nat_eq q (x ∷ xs) ≡ true)
    by_test rest (inl t) =
        elim (or_cases (nat_eq q x) (holds nat_eq q (filter f xs)) (subst (λ (ys : List ℕ). holds nat_eq q ys ≡ true)
        (filter_taken f x xs t) h)) as (λ _. (f q ≡ true) × (holds nat_eq q (x ∷ xs) ≡ true)) [
          | inl a ↦ (ap f (eqb-true q x a) ∙ t, or_left (nat_eq q x) (holds nat_eq q xs) a)
          | inr b ↦ let r = rest b in (r.0, or_right (nat_eq q x) (holds nat_eq q xs) r.1)
        ]
    by_test rest (inr t) = let r = rest (subst (λ (ys : List ℕ). holds nat_eq q ys ≡ true) (filter_left f x xs t) h) in
        (r.0, or_right (nat_eq q x) (holds nat_eq q xs) r.1)

pub filter_complete : (f : ℕ → Bool) (q : ℕ) (xs : List ℕ) → f q ≡ true → holds nat_eq q xs ≡ true → holds nat_eq q (filter f xs) ≡ true
filter_complete f q [] t h = absurd (false≢true h)
filter_complete f q (x ∷ xs) t h = by_test (filter_complete f q xs t) (cases_Bool (f x)) (or_cases (nat_eq q x) (holds nat_eq q xs) h)
  where
    by_test : (holds nat_eq q xs ≡ true → holds nat_eq q (filter f xs) ≡ true) → (f x ≡ true) ⊎ (f x ≡ false)
        → (nat_eq q x ≡ true) ⊎ (holds nat_eq q xs ≡ true) → holds nat_eq q (filter f (x ∷ xs)) ≡ true
    by_test rest (inl y) (inl a) = subst (λ (ys : List ℕ). holds nat_eq q ys ≡ true) (sym (filter_taken f x xs y))
        (or_left (nat_eq q x) (holds nat_eq q (filter f xs)) a)
    by_test rest (inl y) (inr b) = subst (λ (ys : List ℕ). holds nat_eq q ys ≡ true) (sym (filter_taken f x xs y))
        (or_right (nat_eq q x) (holds nat_eq q (filter f xs)) (rest b))
    by_test rest (inr y) (inl a) = absurd (false≢true (sym y ∙ ap f (sym (eqb-true q x a)) ∙ t))
    by_test rest (inr y) (inr b) = subst (λ (ys : List ℕ). holds nat_eq q ys ≡ true) (sym (filter_left f x xs y)) (rest b)

pub goes_back_along : (c : Code) (before : List (List ℕ)) (lines : List ℕ) (flags : ℕ → Bool) → AreOf c before lines
    → IsBackward c flags (λ r. filter flags (row_in before r))
goes_back_along c before lines flags are =
    record {
      sound = λ r q h. let s = filter_sound flags q (row_in before r) h in (s.0, sym (are.rows r q) ∙ s.1);
      complete = λ r q t e. filter_complete flags q (row_in before r) t (are.rows r q ∙ e);
    }

same_lines : (c : Code) (before : List (List ℕ)) (lines : List ℕ) → AreOf c before lines → (step : ℕ → List ℕ) (start line sets m : ℕ)
    → IsMet step c.line start line sets m → IsMet step (line_at lines) start line sets m
same_lines c before lines are step start line sets m met = (met.0, met.1, (met.2.0, met.2.1, sym (are.is_line met.2.0) ∙ met.2.2))

other_lines : (c : Code) (before : List (List ℕ)) (lines : List ℕ) → AreOf c before lines → (step : ℕ → List ℕ) (start line sets m : ℕ)
    → IsMet step (line_at lines) start line sets m → IsMet step c.line start line sets m
other_lines c before lines are step start line sets m met = (met.0, met.1, (met.2.0, met.2.1, are.is_line met.2.0 ∙ met.2.2))

-- the search's answer, of younger lines
pub few_younger : (c : Code) (within : ℕ → Bool) (before : List (List ℕ)) (lines : List ℕ) (flags : ℕ → Bool) (p line sets ways : ℕ)
    → AreOf c before lines → TestsFollowing c within line flags → within p ≡ true → c.line p ≡ line
    → (AtLeast ways (IsMet (λ r. filter flags (row_in before r)) (line_at lines) p line sets) → ⊥)
    → AtLeast ways (IsYounger c sets within p) → ⊥
few_younger c within before lines flags p line sets ways are exact here is none a =
    let met = many_are_met c within line flags (λ r. filter flags (row_in before r)) exact (goes_back_along c before lines flags are) p here
    is sets ways a in
    none (met.0, met.1, (λ m h. same_lines c before lines are (λ r. filter flags (row_in before r)) p line sets m (met.2 m h)), met.3)

pub many_younger : (c : Code) (within : ℕ → Bool) (before : List (List ℕ)) (lines : List ℕ) (flags : ℕ → Bool) (p line sets ways : ℕ)
    → AreOf c before lines → TestsFollowing c within line flags → within p ≡ true → c.line p ≡ line
    → AtLeast ways (IsMet (λ r. filter flags (row_in before r)) (line_at lines) p line sets) → AtLeast ways (IsYounger c sets within p)
many_younger c within before lines flags p line sets ways are exact here is met =
    many_are_younger c within line flags (λ r. filter flags (row_in before r)) exact (goes_back_along c before lines flags are) p here is
    sets ways
    (met.0, met.1, (λ m h. other_lines c before lines are (λ r. filter flags (row_in before r)) p line sets m (met.2 m h)), met.3)
