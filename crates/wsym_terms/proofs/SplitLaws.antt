-- The greatest sum over all splits, by its order: it is at least each split, and at most what each split is at most.
use Rattle.std.proofs.Common.{◌≡◌, ℕ, zero, suc, ◌-◌, ◌≤◌, ◌⊎◌, inl, inr, refl, sym, ap, subst, arith}
use Rattle.wsym_terms.specs.Extents.{Extent, Finite, Infinite, plus, greater, IsAtMost}
use Rattle.wsym_terms.specs.Trees.{best}
use Rattle.wsym_terms.proofs.ExtentLaws.{at_most_self, at_most_trans, greater_left, greater_right, greater_at_most}

pub best_at_least : (f g : ℕ → Extent) (i k n : ℕ) → i ≤ k → IsAtMost (plus (f i) (g (n - i))) (best f g k n)
best_at_least f g i zero n h =
    let e : i ≡ zero = omega arith in
    let r : n - zero ≡ n = omega arith in
    subst (λ (j : ℕ). IsAtMost (plus (f j) (g (n - j))) (plus (f zero) (g n))) (sym e)
    (subst (λ (m : ℕ). IsAtMost (plus (f zero) (g m)) (plus (f zero) (g n))) (sym r) (at_most_self (plus (f zero) (g n))))
best_at_least f g i (suc k) n h =
    let last = plus (f (suc k)) (g (n - suc k)) in
    let cases : (i ≡ suc k) ⊎ (i ≤ k) = split_top i k h in
    elim cases as (λ _. IsAtMost (plus (f i) (g (n - i))) (greater last (best f g k n))) [
      | inl e ↦ subst (λ (j : ℕ). IsAtMost (plus (f j) (g (n - j))) (greater last (best f g k n))) (sym e) (greater_left last (best f g k n))
      | inr le ↦ at_most_trans (plus (f i) (g (n - i))) (best f g k n) (greater last (best f g k n)) (best_at_least f g i k n le) (greater_right last (best f g k n))
    ]
  where
    split_top : (i k : ℕ) → i ≤ suc k → (i ≡ suc k) ⊎ (i ≤ k)
    split_top i k h = grind arith

pub best_at_most : (f g : ℕ → Extent) (k n : ℕ) (top : Extent) → ((i : ℕ) → i ≤ k → IsAtMost (plus (f i) (g (n - i))) top) → IsAtMost (best f g k n) top
best_at_most f g zero n top h =
    let r : n - zero ≡ n = omega arith in
    subst (λ (m : ℕ). IsAtMost (plus (f zero) (g m)) top) r (h zero (omega arith))
best_at_most f g (suc k) n top h =
    greater_at_most (plus (f (suc k)) (g (n - suc k))) (best f g k n) top (h (suc k) (omega arith)) (best_at_most f g k n top (λ i le. h i (omega arith)))

plus_greater : (e a b : Extent) → plus e (greater a b) ≡ greater (plus e a) (plus e b)
plus_greater Infinite a b = refl
plus_greater (Finite e) Infinite b = refl
plus_greater (Finite e) (Finite a) Infinite = refl
plus_greater (Finite e) (Finite a) (Finite b) = ap Finite (omega arith)

-- the same of a number added to the greatest sum
pub plus_best_at_most : (e : Extent) (f g : ℕ → Extent) (k n : ℕ) (top : Extent) → ((i : ℕ) → i ≤ k → IsAtMost (plus e (plus (f i) (g (n - i)))) top) → IsAtMost (plus e (best f g k n)) top
plus_best_at_most e f g zero n top h =
    let r : n - zero ≡ n = omega arith in
    subst (λ (m : ℕ). IsAtMost (plus e (plus (f zero) (g m))) top) r (h zero (omega arith))
plus_best_at_most e f g (suc k) n top h =
    let last = plus (f (suc k)) (g (n - suc k)) in
    subst (λ (x : Extent). IsAtMost x top) (sym (plus_greater e last (best f g k n)))
    (greater_at_most (plus e last) (plus e (best f g k n)) top (h (suc k) (omega arith)) (plus_best_at_most e f g k n top (λ i le. h i (omega arith))))
