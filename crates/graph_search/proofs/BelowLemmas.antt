-- The numbers below a number, and those of them that pass a test.
use Rattle.std.proofs.Common.{◌≡◌, refl, sym, ap, ◌∙◌, subst, ℕ, zero, suc, ◌<◌, ◌≤◌, ◌⊎◌, inl, inr, Bool, true, false}
use Rattle.std.proofs.Common.{List, [], ◌∷◌, ◌++◌, length, take, arith}
use Rattle.std.specs.Prelude.{◌≢◌, nat_eq, if◌then◌else◌, Some, slice_get}
use Rattle.std.proofs.lemmas.Bool.{cases_eq, cases_Bool, or_cases, or_left, or_right, cond-true, cond-false, eqb-true, eq-eqb, false≢true}
use Rattle.graph_search.specs.NodeLists.{holds, Distinct}
use Rattle.graph_search.proofs.ListLemmas.{nat_equality, no_more}

abbrev pub numbers : ℕ → List ℕ
numbers zero = []
numbers (suc n) = n ∷ numbers n

pub numbers_length : (n : ℕ) → length (numbers n) ≡ n
numbers_length zero = refl
numbers_length (suc n) = ap suc (numbers_length n)

pub numbers_all : (t n : ℕ) → t < n → holds nat_eq t (numbers n) ≡ true
numbers_all t zero l = absurd (omega (arith, l))
numbers_all t (suc n) l =
    elim (cases_eq t n) as (λ _. holds nat_eq t (numbers (suc n)) ≡ true) [
      | inl e ↦ or_left (nat_eq t n) (holds nat_eq t (numbers n)) (eq-eqb t n e)
      | inr ne ↦ or_right (nat_eq t n) (holds nat_eq t (numbers n)) (numbers_all t n (smaller t n l ne))
    ]
  where
    smaller : (t n : ℕ) → t < suc n → t ≢ n → t < n
    smaller t n l ne = grind arith

pub numbers_below : (t n : ℕ) → holds nat_eq t (numbers n) ≡ true → t < n
numbers_below t zero h = absurd (false≢true h)
numbers_below t (suc n) h =
    elim (or_cases (nat_eq t n) (holds nat_eq t (numbers n)) h) as (λ _. t < suc n) [
      | inl a ↦ let e = eqb-true t n a in omega (arith, e)
      | inr b ↦ let r = numbers_below t n b in omega (arith, r)
    ]

-- different numbers below n are at most n
pub few_below : (n : ℕ) (xs : List ℕ) → Distinct nat_eq xs → ((t : ℕ) → holds nat_eq t xs ≡ true → t < n)
    → length xs ≤ n
few_below n xs d h = let r = no_more ℕ nat_equality xs (numbers n) d (λ t k. numbers_all t n (h t k))
    in let e = numbers_length n in omega (arith, r, e)

-- those below a number that pass a test
abbrev pub passing : (ℕ → Bool) → ℕ → List ℕ
passing P zero = []
passing P (suc n) = if P n then n ∷ passing P n else passing P n

pub passing_all : (P : ℕ → Bool) (t n : ℕ) → t < n → P t ≡ true → holds nat_eq t (passing P n) ≡ true
passing_all P t zero l h = absurd (omega (arith, l))
passing_all P t (suc n) l h =
    elim (cases_eq t n) as (λ _. holds nat_eq t (passing P (suc n)) ≡ true) [
      | inl e ↦
          subst (λ xs. holds nat_eq t xs ≡ true) (sym (cond-true (P n) (n ∷ passing P n) (passing P n)
          (subst (λ x. P x ≡ true) e h)))
          (or_left (nat_eq t n) (holds nat_eq t (passing P n)) (eq-eqb t n e))
      | inr ne ↦
          let rest = passing_all P t n (smaller t n l ne) h in
          elim (cases_Bool (P n)) as (λ _. holds nat_eq t (passing P (suc n)) ≡ true) [
            | inl a ↦ subst (λ xs. holds nat_eq t xs ≡ true) (sym (cond-true (P n) (n ∷ passing P n) (passing P n) a))
                (or_right (nat_eq t n) (holds nat_eq t (passing P n)) rest)
            | inr b ↦ subst (λ xs. holds nat_eq t xs ≡ true)
                (sym (cond-false (P n) (n ∷ passing P n) (passing P n) b)) rest
          ]
    ]
  where
    smaller : (t n : ℕ) → t < suc n → t ≢ n → t < n
    smaller t n l ne = grind arith

pub passing_are : (P : ℕ → Bool) (t n : ℕ) → holds nat_eq t (passing P n) ≡ true → (t < n) × (P t ≡ true)
passing_are P t zero h = absurd (false≢true h)
passing_are P t (suc n) h =
    elim (cases_Bool (P n)) as (λ _. (t < suc n) × (P t ≡ true)) [
      | inl a ↦
          elim (or_cases (nat_eq t n) (holds nat_eq t (passing P n))
          (subst (λ xs. holds nat_eq t xs ≡ true) (cond-true (P n) (n ∷ passing P n) (passing P n) a) h)) as
          (λ _. (t < suc n) × (P t ≡ true)) [
            | inl e ↦ let s = eqb-true t n e in (omega (arith, s), subst (λ x. P x ≡ true) (sym s) a)
            | inr o ↦ let r = passing_are P t n o in (omega (arith, r.0), r.1)
          ]
      | inr b ↦
          let r = passing_are P t n (subst (λ xs. holds nat_eq t xs ≡ true)
          (cond-false (P n) (n ∷ passing P n) (passing P n) b) h) in
          (omega (arith, r.0), r.1)
    ]

-- all below a number pass a test, or one doesn't
pub all_or_one : (P : ℕ → Bool) (n : ℕ) → ((t : ℕ) → t < n → P t ≡ true) ⊎ ((t : ℕ) × (t < n) × (P t ≡ false))
all_or_one P zero = inl (λ t l. absurd (omega (arith, l)))
all_or_one P (suc n) =
    elim (all_or_one P n) as (λ _. ((t : ℕ) → t < suc n → P t ≡ true) ⊎ ((t : ℕ) × (t < suc n) × (P t ≡ false))) [
      | inr r ↦ inr (r.0, omega (arith, r.1), r.2)
      | inl all ↦
          elim (cases_Bool (P n)) as (λ _. ((t : ℕ) → t < suc n → P t ≡ true) ⊎
          ((t : ℕ) × (t < suc n) × (P t ≡ false))) [
            | inr f ↦ inr (n, omega arith, f)
            | inl y ↦ inl (λ t l.
                elim (cases_eq t n) as (λ _. P t ≡ true) [
                  | inl e ↦ subst (λ x. P x ≡ true) (sym e) y
                  | inr ne ↦ all t (smaller t n l ne)
                ])
          ]
    ]
  where
    smaller : (t n : ℕ) → t < suc n → t ≢ n → t < n
    smaller t n l ne = grind arith
