-- Sums and order of numbers of cycles with infinity.
use Rattle.std.proofs.Common.{◌≡◌, ℕ, zero, suc, ◌+◌, ◌-◌, ◌≤◌, refl, sym, ap, subst, ◌∙◌, arith, add_assoc, add_comm, le_refl, le_trans, le_antisymm}
use Rattle.wsym_terms.specs.Extents.{Extent, Finite, Infinite, plus, greater, times, IsAtMost}

pub at_most_self : (a : Extent) → IsAtMost a a
at_most_self (Finite a) = le_refl a
at_most_self Infinite = tt

pub at_most_trans : (a b c : Extent) → IsAtMost a b → IsAtMost b c → IsAtMost a c
at_most_trans a b Infinite p q = tt
at_most_trans (Finite a) (Finite b) (Finite c) p q = le_trans p q
at_most_trans Infinite (Finite b) (Finite c) p q = absurd p
at_most_trans a Infinite (Finite c) p q = absurd q

pub at_most_antisym : (a b : Extent) → IsAtMost a b → IsAtMost b a → a ≡ b
at_most_antisym Infinite Infinite p q = refl
at_most_antisym (Finite a) (Finite b) p q = ap Finite (le_antisymm p q)
at_most_antisym (Finite a) Infinite p q = absurd q
at_most_antisym Infinite (Finite b) p q = absurd p

pub at_most_path : (a b : Extent) → a ≡ b → IsAtMost a b
at_most_path a b e = subst (λ (x : Extent). IsAtMost a x) e (at_most_self a)

pub zero_at_most : (a : Extent) → IsAtMost (Finite 0) a
zero_at_most (Finite a) = omega arith
zero_at_most Infinite = tt

pub plus_at_most : (a b c d : Extent) → IsAtMost a c → IsAtMost b d → IsAtMost (plus a b) (plus c d)
plus_at_most a b Infinite d p q = tt
plus_at_most a b (Finite c) Infinite p q = tt
plus_at_most (Finite a) (Finite b) (Finite c) (Finite d) p q = omega arith
plus_at_most Infinite b (Finite c) (Finite d) p q = absurd p
plus_at_most (Finite a) Infinite (Finite c) (Finite d) p q = absurd q

pub plus_assoc : (a b c : Extent) → plus (plus a b) c ≡ plus a (plus b c)
plus_assoc Infinite b c = refl
plus_assoc (Finite a) Infinite c = refl
plus_assoc (Finite a) (Finite b) Infinite = refl
plus_assoc (Finite a) (Finite b) (Finite c) = ap Finite (add_assoc a b c)

pub plus_comm : (a b : Extent) → plus a b ≡ plus b a
plus_comm (Finite a) (Finite b) = ap Finite (add_comm a b)
plus_comm (Finite a) Infinite = refl
plus_comm Infinite (Finite b) = refl
plus_comm Infinite Infinite = refl

pub plus_nothing : (a : Extent) → plus (Finite 0) a ≡ a
plus_nothing (Finite a) = ap Finite (omega arith)
plus_nothing Infinite = refl

pub nothing_plus : (a : Extent) → plus a (Finite 0) ≡ a
nothing_plus (Finite a) = ap Finite (omega arith)
nothing_plus Infinite = refl

-- (a + b) + (c + d) as (a + c) + (b + d)
pub plus_swap : (a b c d : Extent) → plus (plus a b) (plus c d) ≡ plus (plus a c) (plus b d)
plus_swap Infinite b c d = refl
plus_swap (Finite a) Infinite Infinite d = refl
plus_swap (Finite a) Infinite (Finite c) d = refl
plus_swap (Finite a) (Finite b) Infinite d = refl
plus_swap (Finite a) (Finite b) (Finite c) Infinite = refl
plus_swap (Finite a) (Finite b) (Finite c) (Finite d) = ap Finite (omega arith)

pub greater_left : (a b : Extent) → IsAtMost a (greater a b)
greater_left (Finite a) (Finite b) = omega arith
greater_left (Finite a) Infinite = tt
greater_left Infinite b = tt

pub greater_right : (a b : Extent) → IsAtMost b (greater a b)
greater_right (Finite a) (Finite b) = omega arith
greater_right (Finite a) Infinite = tt
greater_right Infinite b = at_most_any b
  where
    at_most_any : (b : Extent) → IsAtMost b Infinite
    at_most_any b = tt

pub greater_at_most : (a b c : Extent) → IsAtMost a c → IsAtMost b c → IsAtMost (greater a b) c
greater_at_most a b Infinite p q = tt
greater_at_most (Finite a) (Finite b) (Finite c) p q = omega arith
greater_at_most (Finite a) Infinite (Finite c) p q = absurd q
greater_at_most Infinite b (Finite c) p q = absurd p

pub times_zero : (a : Extent) → times zero a ≡ Finite 0
times_zero (Finite a) = ap Finite (omega arith)
times_zero Infinite = refl

pub times_suc : (n : ℕ) (a : Extent) → times (suc n) a ≡ plus a (times n a)
times_suc n (Finite a) = ap Finite (grind arith)
times_suc zero Infinite = refl
times_suc (suc n) Infinite = refl

pub times_add : (m n : ℕ) (a : Extent) → times (m + n) a ≡ plus (times m a) (times n a)
times_add m n (Finite a) = ap Finite (grind arith)
times_add zero n Infinite = let e : zero + n ≡ n = omega arith in subst (λ (k : ℕ). times k Infinite ≡ plus (Finite 0) (times n Infinite)) (sym e) (sym (plus_nothing (times n Infinite)))
times_add (suc m) n Infinite = let e : suc m + n ≡ suc (m + n) = omega arith in subst (λ (k : ℕ). times k Infinite ≡ Infinite) (sym e) refl

pub times_more : (m n : ℕ) (a : Extent) → m ≤ n → IsAtMost (times m a) (times n a)
times_more m n a h =
    let e : m + (n - m) ≡ n = omega arith in
    let s : times n a ≡ plus (times m a) (times (n - m) a) = ap (λ k. times k a) (sym e) ∙ times_add m (n - m) a in
    subst (λ (x : Extent). IsAtMost (times m a) x) (sym s)
    (subst (λ (x : Extent). IsAtMost x (plus (times m a) (times (n - m) a))) (nothing_plus (times m a))
    (plus_at_most (times m a) (Finite 0) (times m a) (times (n - m) a) (at_most_self (times m a)) (zero_at_most (times (n - m) a))))
