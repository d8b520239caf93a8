-- Words as signed numbers.
use Rattle.std.proofs.Common.{◌≡◌, ℕ, ℤ, ◌^◌, ◌<◌, ◌*ℤ◌, ap, ◌∙◌, rules}
use Rattle.std.proofs.lemmas.Int.{to_z-of_z, of_z-to_z}
use Rattle.std.specs.Int.{cast_signed, cast_unsigned, w32, w64}
use borrow.Author.Numbers.{signed_product}
use mir.Val.{SFits}

-- a word is a signed number of 32 bits, and so one of 64 bits
signed_word : (u : ℕ) → u < 2 ^ 32 → SFits w32 (cast_signed w32 u)
signed_word u small = search rules

wide : (u : ℕ) → u < 2 ^ 32 → SFits w64 (cast_signed w32 u)
wide u small = search rules

-- a word read, written and read again, in 64 bits
abbrev widened : ℕ → ℤ
widened u = cast_signed w64 (cast_unsigned w64 (cast_signed w32 (cast_unsigned w32 (cast_signed w32 u))))

same_number : (u : ℕ) → u < 2 ^ 32 → widened u ≡ cast_signed w32 u
same_number u small =
    ap (λ (n : ℕ). cast_signed w64 (cast_unsigned w64 (cast_signed w32 n))) (of_z-to_z w32 u small)
    ∙ to_z-of_z w64 (cast_signed w32 u) (wide u small)

-- the product of two words read as signed numbers
pub low_bits : (u v : ℕ) → u < 2 ^ 32 → v < 2 ^ 32 → cast_unsigned w64 (cast_signed w64 (cast_unsigned w64 (widened u *ℤ widened v))) ≡ cast_unsigned w64 (cast_signed w32 u *ℤ cast_signed w32 v)
low_bits u v first second =
    ap (cast_unsigned w64) (to_z-of_z w64 (widened u *ℤ widened v) (signed_product w64 w32 w32 (cast_signed w32 u) (cast_signed w32 v) (signed_word u first) (signed_word v second) tt))
    ∙ ap (λ (x : ℤ). cast_unsigned w64 (x *ℤ widened v)) (same_number u first)
    ∙ ap (λ (y : ℤ). cast_unsigned w64 (cast_signed w32 u *ℤ y)) (same_number v second)
