-- The quotient rounded down: exact where the divisor divides, and the greatest number that fits below.
use Rattle.std.proofs.Common.{◌≡◌, refl, sym, ap, ◌∙◌, subst, ℕ, suc, ◌+◌, ◌-◌, ◌*◌, ◌/◌, ◌%◌, ◌<◌, ◌≤◌, ℤ, pos, negsuc, neg_ℤ, ◌+ℤ◌, ◌*ℤ◌, ◌≤ℤ◌, ◌<ℤ◌, arith}
use Rattle.std.specs.Prelude.{unsigned_abs}
use Rattle.std.specs.Int.{◌∣◌}
use Rattle.std.proofs.Math.Nat.{mul-div_cancel', mul-div-le, lt_of_not-le, mod-lt, div-add-mod, mul-suc}
use Rattle.std.proofs.lemmas.Nat.{mod-mul-add, div-add-mod'}
use Rattle.std.proofs.lemmas.Nat.Gcd.{mod-eq-zero_of_dvd}
use Rattle.std.proofs.lemmas.Int.{ints, by_lt_z}
use Rattle.linear_rows.specs.NormalForm.{floor}
use Rattle.linear_rows.proofs.Integers.{mul-add, mul-neg}

unless_less : (a b : ℕ) → (a < b → ⊥) → b ≤ a
unless_less a b h = let k : b < suc a = lt_of_not-le (λ (m : suc a ≤ b). h (omega arith)) in omega arith

-- where d divides n + 1, that is d times one more than n / d
next_multiple : (n d : ℕ) → 0 < d → d ∣ suc n → d * suc (n / d) ≡ suc n
next_multiple n d h k =
    let whole = div-add-mod n d in
    let after : suc n ≡ n / d * d + suc (n % d) = let e = div-add-mod' n d in omega arith in
    let rest = mod-lt n h in
    let product = mul-suc d (n / d) in
    let divides = mod-eq-zero_of_dvd d k in
    let full : d ≤ suc (n % d) =
    unless_less (suc (n % d)) d (λ less.
    let e : suc n % d ≡ suc (n % d) = ap (λ m. m % d) after ∙ mod-mul-add (n / d) d (suc (n % d)) less in omega arith) in
    omega arith

pub floor_exact : (z : ℤ) (d : ℕ) → 0 < d → d ∣ unsigned_abs z → pos d *ℤ floor z d ≡ z
floor_exact (pos n) d h k = ap pos (mul-div_cancel' d k)
floor_exact (negsuc n) d h k = ap (λ m. neg_ℤ (pos m)) (next_multiple n d h k)

below : (n d : ℕ) → 0 < d → n < d * suc (n / d)
below n d h =
    let whole = div-add-mod n d in let rest = mod-lt n h in let product = mul-suc d (n / d) in omega arith

pub floor_low : (z : ℤ) (d : ℕ) → 0 < d → (pos d *ℤ floor z d) ≤ℤ z
floor_low (pos n) d h = let e = mul-div-le n d in grind (arith, ints)
floor_low (negsuc n) d h = let e = below n d h in grind (arith, ints)

pub floor_high : (z : ℤ) (d : ℕ) → 0 < d → z <ℤ (pos d *ℤ (floor z d +ℤ pos 1))
floor_high (pos n) d h =
    let e = below n d h in
    let f : d * (n / d + 1) ≡ d * suc (n / d) = ap (λ m. d * m) (omega arith) in
    let g : n < d * (n / d + 1) = omega arith in
    grind (arith, ints)
floor_high (negsuc n) d h =
    let e = mul-div-le n d in
    let f : negsuc (n / d) +ℤ pos 1 ≡ neg_ℤ (pos (n / d)) = omega (arith, ints) in
    let g : pos d *ℤ (negsuc (n / d) +ℤ pos 1) ≡ neg_ℤ (pos d *ℤ pos (n / d)) = ap (λ x. pos d *ℤ x) f ∙ mul-neg (pos d) (pos (n / d)) in
    subst (λ x. negsuc n <ℤ x) (sym g) (omega (arith, ints))

le_parts : (a b : ℤ) → a ≤ℤ b → (k : ℕ) × (b ≡ a +ℤ pos k)
le_parts (pos a) (pos b) h = (b - a, omega (arith, ints))
le_parts (pos a) (negsuc b) h = absurd (omega (arith, ints))
le_parts (negsuc a) (pos b) h = (suc a + b, omega (arith, ints))
le_parts (negsuc a) (negsuc b) h = (a - b, omega (arith, ints))

pub mul_monotone : (d : ℕ) (a b : ℤ) → a ≤ℤ b → (pos d *ℤ a) ≤ℤ (pos d *ℤ b)
mul_monotone d a b h =
    let k = le_parts a b h in
    let e : pos d *ℤ b ≡ pos d *ℤ (a +ℤ pos k.0) = ap (λ x. pos d *ℤ x) k.1 in
    let f = mul-add (pos d) a (pos k.0) in
    let g : pos d *ℤ pos k.0 ≡ pos (d * k.0) = refl in
    omega (arith, ints)

pub floor_holds : (z s : ℤ) (d : ℕ) → 0 < d → s ≤ℤ floor z d → (pos d *ℤ s) ≤ℤ z
floor_holds z s d h k = let e = mul_monotone d s (floor z d) k in let f = floor_low z d h in omega (arith, ints)

pub holds_floor : (z s : ℤ) (d : ℕ) → 0 < d → (pos d *ℤ s) ≤ℤ z → s ≤ℤ floor z d
holds_floor z s d h k =
    by_lt_z (floor z d) s
    (λ less. let e = mul_monotone d (floor z d +ℤ pos 1) s (omega (arith, ints)) in let f = floor_high z d h in absurd (omega (arith, ints)))
    (λ le. le)
