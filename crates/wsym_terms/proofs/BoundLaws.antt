-- Numbers of a bound: their magnitudes, and the values of parameters.
use Rattle.std.proofs.Common.{◌≡◌, ℕ, ℤ, pos, negsuc, ◌+◌, ◌*◌, ◌^◌, ◌≤◌, ◌+ℤ◌, unsigned_abs, SFits, w32, true, false, ◌≤ℤ◌, div-le_self, refl, arith}
use Rattle.std.specs.Int.{w128, int_div_euclid}
use Rattle.std.proofs.lemmas.Int.{ints, fits_signed_from_abs}
use lib.Signed.{lt_z}
use Rattle.wsym_terms.specs.Bounds.{at_least_zero}

pub abs_of_fits : (z : ℤ) → SFits w32 z → unsigned_abs z ≤ 2 ^ 31
abs_of_fits (pos n) fits = omega (arith, fits.sfits)
abs_of_fits (negsuc n) fits = omega (arith, fits.sfits)

pub abs_sum : (a b : ℤ) → unsigned_abs (a +ℤ b) ≤ unsigned_abs a + unsigned_abs b
abs_sum a b = omega (arith, ints)

-- a quotient is no larger than what is divided
pub abs_quotient : (a d : ℤ) → pos 1 ≤ℤ d → unsigned_abs (int_div_euclid a d) ≤ unsigned_abs a
abs_quotient (pos a) (pos d) h = div-le_self a d
abs_quotient (negsuc a) (pos d) h = let e = div-le_self a d in omega arith
abs_quotient (pos a) (negsuc d) h = absurd (omega (arith, ints))
abs_quotient (negsuc a) (negsuc d) h = absurd (omega (arith, ints))

pub turns_fit : (z : ℤ) (n : ℕ) → unsigned_abs z ≤ n → n ≤ 14 * 2 ^ 121 → SFits w128 (z +ℤ pos 1)
turns_fit z n small few = fits_signed_from_abs w128 (z +ℤ pos 1) (let e = abs_sum z (pos 1) in omega (arith, e))

pub none_below : (z : ℤ) → lt_z z (pos 0) ≡ true → 0 ≡ at_least_zero z
none_below (pos n) h = grind (arith, ints)
none_below (negsuc n) h = refl

pub itself_above : (z : ℤ) → lt_z z (pos 0) ≡ false → unsigned_abs z ≡ at_least_zero z
itself_above (pos n) h = refl
itself_above (negsuc n) h = absurd (cc)
