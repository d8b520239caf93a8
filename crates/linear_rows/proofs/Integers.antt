-- Laws of the integers.
use Rattle.std.proofs.Common.{◌≡◌, sym, ap, ◌∙◌, zero, suc, ℤ, pos, neg_ℤ, ◌+ℤ◌, ◌-ℤ◌, ◌*ℤ◌, arith}
use Rattle.std.proofs.lemmas.Int.{ints}
use Rattle.std.proofs.Math.IntN.{ℤ_ind, suc_ℤ-*ℤ, pred_ℤ-*ℤ, +ℤ_one, -ℤ_one, zero-*ℤ, *ℤ_comm}

one_more : (k c : ℤ) → (k +ℤ pos (suc zero)) *ℤ c ≡ (k *ℤ c) +ℤ c
one_more k c = ap (λ x. x *ℤ c) (+ℤ_one k) ∙ suc_ℤ-*ℤ k c

one_less : (k c : ℤ) → (k -ℤ pos (suc zero)) *ℤ c ≡ (k *ℤ c) -ℤ c
one_less k c = ap (λ x. x *ℤ c) (-ℤ_one k) ∙ pred_ℤ-*ℤ k c

add_zero : (b : ℤ) → pos zero +ℤ b ≡ b
add_zero b = omega (arith, ints)

shift_up : (k b : ℤ) → (k +ℤ pos (suc zero)) +ℤ b ≡ (k +ℤ b) +ℤ pos (suc zero)
shift_up k b = omega (arith, ints)

shift_down : (k b : ℤ) → (k -ℤ pos (suc zero)) +ℤ b ≡ (k +ℤ b) -ℤ pos (suc zero)
shift_down k b = omega (arith, ints)

-- a sum times a number
pub add-mul : (a b c : ℤ) → (a +ℤ b) *ℤ c ≡ (a *ℤ c) +ℤ (b *ℤ c)
add-mul a b c =
    ℤ_ind (λ k. (k +ℤ b) *ℤ c ≡ (k *ℤ c) +ℤ (b *ℤ c))
    (ap (λ x. x *ℤ c) (add_zero b) ∙ sym (ap (λ x. x +ℤ (b *ℤ c)) (zero-*ℤ c) ∙ add_zero (b *ℤ c)))
    (λ n h. let e : ((pos n +ℤ pos (suc zero)) +ℤ b) *ℤ c ≡ ((pos n +ℤ b) +ℤ pos (suc zero)) *ℤ c = ap (λ x. x *ℤ c) (shift_up (pos n) b) in
    let f = one_more (pos n +ℤ b) c in let g = one_more (pos n) c in omega (arith, ints))
    (λ n h. let e : ((neg_ℤ (pos n) -ℤ pos (suc zero)) +ℤ b) *ℤ c ≡ ((neg_ℤ (pos n) +ℤ b) -ℤ pos (suc zero)) *ℤ c = ap (λ x. x *ℤ c) (shift_down (neg_ℤ (pos n)) b) in
    let f = one_less (neg_ℤ (pos n) +ℤ b) c in let g = one_less (neg_ℤ (pos n)) c in omega (arith, ints))
    a

-- a number times a sum
pub mul-add : (a b c : ℤ) → a *ℤ (b +ℤ c) ≡ (a *ℤ b) +ℤ (a *ℤ c)
mul-add a b c =
    let e = add-mul b c a in let f = *ℤ_comm a (b +ℤ c) in let g = *ℤ_comm b a in let h = *ℤ_comm c a in omega (arith, ints)

negated : (a : ℤ) → neg_ℤ a +ℤ a ≡ pos zero
negated a = omega (arith, ints)

pub neg-mul : (a b : ℤ) → neg_ℤ a *ℤ b ≡ neg_ℤ (a *ℤ b)
neg-mul a b =
    let e = add-mul (neg_ℤ a) a b in let f : (neg_ℤ a +ℤ a) *ℤ b ≡ pos zero *ℤ b = ap (λ x. x *ℤ b) (negated a) in
    let g = zero-*ℤ b in omega (arith, ints)

pub mul-neg : (a b : ℤ) → a *ℤ neg_ℤ b ≡ neg_ℤ (a *ℤ b)
mul-neg a b = *ℤ_comm a (neg_ℤ b) ∙ neg-mul b a ∙ ap neg_ℤ (*ℤ_comm b a)

pub mul_assoc : (a b c : ℤ) → (a *ℤ b) *ℤ c ≡ a *ℤ (b *ℤ c)
mul_assoc a b c =
    ℤ_ind (λ k. (k *ℤ b) *ℤ c ≡ k *ℤ (b *ℤ c))
    (ap (λ x. x *ℤ c) (zero-*ℤ b) ∙ zero-*ℤ c ∙ sym (zero-*ℤ (b *ℤ c)))
    (λ n h. let e : ((pos n +ℤ pos (suc zero)) *ℤ b) *ℤ c ≡ ((pos n *ℤ b) +ℤ b) *ℤ c = ap (λ x. x *ℤ c) (one_more (pos n) b) in
    let f = add-mul (pos n *ℤ b) b c in let g = one_more (pos n) (b *ℤ c) in omega (arith, ints))
    (λ n h. let e : ((neg_ℤ (pos n) -ℤ pos (suc zero)) *ℤ b) *ℤ c ≡ ((neg_ℤ (pos n) *ℤ b) -ℤ b) *ℤ c = ap (λ x. x *ℤ c) (one_less (neg_ℤ (pos n)) b) in
    let f = add-mul (neg_ℤ (pos n) *ℤ b) (neg_ℤ b) c in let i = neg-mul b c in let g = one_less (neg_ℤ (pos n)) (b *ℤ c) in omega (arith, ints))
    a
