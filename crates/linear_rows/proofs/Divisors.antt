-- The common divisor of terms divides each factor, and every number that divides each factor divides it.
use Rattle.std.proofs.Common.{◌≡◌, ◌≢◌, refl, sym, subst, ℕ, zero, suc, ◌%◌, ◌<◌, ◌≤◌, ℤ, pos, negsuc, List, [], ◌∷◌, arith}
use Rattle.std.specs.Prelude.{unsigned_abs}
use Rattle.std.specs.Int.{IsGcd, ◌∣◌}
use Rattle.std.proofs.Math.Nat.{pos_of_dvd_of_pos}
use Rattle.std.proofs.lemmas.Nat.Gcd.{IsGcd-from_zero, IsGcd-from_mod, same_from_IsGcd, dvd_trans, dvd_refl, dvd-zero}
use Rattle.std.proofs.lemmas.Bool.Decides.{nat_tests}
use Rattle.linear_rows.specs.declared.rows.RowTerm.{RowTerm}
use Rattle.linear_rows.specs.Terms.{HasNoZero}
use Rattle.linear_rows.specs.NormalForm.{DividesEach, euclid, gcd, common_divisor, divisor_of}

pub euclid_zero : (steps a b : ℕ) → b ≡ 0 → euclid steps a b ≡ a
euclid_zero zero a b e = refl
euclid_zero (suc steps) a b e = grind (arith, nat_tests)

pub euclid_step : (steps a b : ℕ) → 0 < b → euclid (suc steps) a b ≡ euclid steps b (a % b)
euclid_step steps a b h = grind (arith, nat_tests)

pub IsGcd-euclid : (steps a b : ℕ) → b ≤ steps → IsGcd a b (euclid steps a b)
IsGcd-euclid zero a b h = IsGcd-from_zero a b (omega arith)
IsGcd-euclid (suc steps) a zero h =
    subst (IsGcd a zero) (sym (euclid_zero (suc steps) a zero refl)) (IsGcd-from_zero a zero refl)
IsGcd-euclid (suc steps) a (suc b) h =
    subst (IsGcd a (suc b)) (sym (euclid_step steps a (suc b) (omega arith)))
    (IsGcd-from_mod a (suc b) (euclid steps (suc b) (a % suc b)) (IsGcd-euclid steps (suc b) (a % suc b) (omega arith)))

pub IsGcd-gcd : (a b : ℕ) → IsGcd a b (gcd a b)
IsGcd-gcd a b = IsGcd-euclid b a b (omega arith)

-- Euclid's step
pub gcd_step : (a b : ℕ) → 0 < b → gcd b (a % b) ≡ gcd a b
gcd_step a b h =
    same_from_IsGcd a b (gcd b (a % b)) (gcd a b) (IsGcd-from_mod a b (gcd b (a % b)) (IsGcd-gcd b (a % b))) (IsGcd-gcd a b)

pub gcd_zero : (a b : ℕ) → b ≡ 0 → gcd a b ≡ a
gcd_zero a b e = euclid_zero b a b e

pub common_divisor-divides : (d : ℕ) (ts : List RowTerm) → (common_divisor d ts ∣ d) × DividesEach (common_divisor d ts) ts
common_divisor-divides d [] = (dvd_refl d, tt)
common_divisor-divides d (t ∷ ts) =
    let rest = common_divisor-divides (gcd d (unsigned_abs t.factor)) ts in
    let first = IsGcd-gcd d (unsigned_abs t.factor) in
    (dvd_trans _ rest.0 first.0, (dvd_trans _ rest.0 first.1, rest.1))

pub divides-common_divisor : (e d : ℕ) (ts : List RowTerm) → e ∣ d → DividesEach e ts → e ∣ common_divisor d ts
divides-common_divisor e d [] h k = h
divides-common_divisor e d (t ∷ ts) h k =
    divides-common_divisor e (gcd d (unsigned_abs t.factor)) ts ((IsGcd-gcd d (unsigned_abs t.factor)).2 e h k.0) k.1

pub divisor_of-divides : (ts : List RowTerm) → DividesEach (divisor_of ts) ts
divisor_of-divides [] = tt
divisor_of-divides (t ∷ ts) = (common_divisor-divides 0 (t ∷ ts)).1

pub divides-divisor_of : (e : ℕ) (t : RowTerm) (ts : List RowTerm) → DividesEach e (t ∷ ts) → e ∣ divisor_of (t ∷ ts)
divides-divisor_of e t ts h = divides-common_divisor e 0 (t ∷ ts) (dvd-zero e) h

pub abs_positive : (z : ℤ) → z ≢ pos 0 → 0 < unsigned_abs z
abs_positive (pos zero) h = absurd (h refl)
abs_positive (pos (suc n)) h = omega arith
abs_positive (negsuc n) h = omega arith

pub divisor_of-positive : (ts : List RowTerm) → HasNoZero ts → 0 < divisor_of ts
divisor_of-positive [] h = omega arith
divisor_of-positive (t ∷ ts) h = pos_of_dvd_of_pos (divisor_of-divides (t ∷ ts)).0 (abs_positive t.factor h.0)

pub divisor_greatest : (ts : List RowTerm) → DividesEach (divisor_of ts) ts × ((d : ℕ) → ts ≢ [] → DividesEach d ts → d ∣ divisor_of ts)
divisor_greatest [] = (tt, λ d n h. absurd (n refl))
divisor_greatest (t ∷ ts) = (divisor_of-divides (t ∷ ts), λ d n h. divides-divisor_of d t ts h)
