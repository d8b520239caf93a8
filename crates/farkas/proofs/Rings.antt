-- Products of integers by natural numbers.
use Rattle.std.proofs.Common.{◌≡◌, sym, ap, ◌∙◌, ℕ, ◌*◌, ◌<◌, ℤ, pos, ◌+ℤ◌, ◌*ℤ◌, arith}
use Rattle.std.proofs.lemmas.Int.{ints}
use Rattle.linear_rows.proofs.Integers.{mul-add, mul_assoc}
use Rattle.farkas.proofs.Soundness.{cancel}

-- factors may be grouped another way
pub regroup : (k l m n : ℕ) (x : ℤ) → k * l ≡ m * n → pos k *ℤ (pos l *ℤ x) ≡ pos m *ℤ (pos n *ℤ x)
regroup k l m n x e = sym (mul_assoc (pos k) (pos l) x) ∙ ap (λ (j : ℕ). pos j *ℤ x) e ∙ mul_assoc (pos m) (pos n) x

pub together : (k l : ℕ) (x : ℤ) → pos k *ℤ (pos l *ℤ x) ≡ pos (k * l) *ℤ x
together k l x = sym (mul_assoc (pos k) (pos l) x)

-- a positive factor can be left out on both sides
pub cancel_same : (k : ℕ) (a b : ℤ) → 0 < k → pos k *ℤ a ≡ pos k *ℤ b → a ≡ b
cancel_same k a b h e =
    let f = cancel k a b h (omega (arith, ints)) in let g = cancel k b a h (omega (arith, ints)) in omega (arith, ints)

-- what supports 1/g of a times one plus b times another, over their divisors s and t
pub derived_number : (a b s t g h d : ℕ) (p n r x y z : ℤ) → pos s *ℤ p ≡ x → pos t *ℤ n ≡ y → pos g *ℤ r ≡ (pos a *ℤ p) +ℤ (pos b *ℤ n) →
    h * d ≡ s * t * g → 0 < h → pos h *ℤ z ≡ (pos (a * t) *ℤ x) +ℤ (pos (b * s) *ℤ y) → pos d *ℤ r ≡ z
derived_number a b s t g h d p n r x y z e f i j k l =
    cancel_same h (pos d *ℤ r) z k
    (regroup h d (s * t) g r j
    ∙ ap (λ (u : ℤ). pos (s * t) *ℤ u) i
    ∙ mul-add (pos (s * t)) (pos a *ℤ p) (pos b *ℤ n)
    ∙ ap (λ (u : ℤ). u +ℤ (pos (s * t) *ℤ (pos b *ℤ n))) (regroup (s * t) a (a * t) s p (omega arith) ∙ ap (λ (u : ℤ). pos (a * t) *ℤ u) e)
    ∙ ap (λ (u : ℤ). (pos (a * t) *ℤ x) +ℤ u) (regroup (s * t) b (b * s) t n (omega arith) ∙ ap (λ (u : ℤ). pos (b * s) *ℤ u) f)
    ∙ sym l)
