-- The normal form of an inequality over the integers: divided by the common divisor of its factors, with
-- its constant rounded down.
use Rattle.std.specs.Prelude.{◌≡◌, ℕ, zero, suc, ◌%◌, ◌^◌, ◌==◌, nat_le, ℤ, pos, neg_ℤ, unsigned_abs, List, [], ◌∷◌, Bool, true, ◌&&◌, Option, Some, None, if◌then◌else◌}
use Rattle.std.specs.Int.{int_div_euclid, ◌∣◌}
use Rattle.linear_rows.specs.declared.rows.RowTerm.{RowTerm}
use Rattle.linear_rows.specs.declared.forms.Form.{Form}
use Rattle.linear_rows.specs.Rows.{Inequality}
use Rattle.linear_rows.specs.Terms.{IsAscending, HasNoZero}

-- Euclid's steps: the second number and the remainder, until that is 0, at most a number of times
abbrev pub euclid : ℕ → ℕ → ℕ → ℕ
euclid zero a b = a
euclid (suc steps) a b = if b == 0 then a else euclid steps b (a % b)

-- the greatest common divisor, which takes at most b steps, since each makes the second number less
abbrev pub gcd : ℕ → ℕ → ℕ
gcd a b = euclid b a b

-- that of a number and of the factors of terms
abbrev pub common_divisor : ℕ → List RowTerm → ℕ
common_divisor d [] = d
common_divisor d (t ∷ ts) = common_divisor (gcd d (unsigned_abs t.factor)) ts

-- the number divides each factor
abbrev pub DividesEach : ℕ → List RowTerm → Type 0
DividesEach d [] = Unit {0}
DividesEach d (t ∷ ts) = (d ∣ unsigned_abs t.factor) × DividesEach d ts

-- what terms are divided by: the greatest common divisor of their factors, and 1 where there are none
abbrev pub divisor_of : List RowTerm → ℕ
divisor_of [] = 1
divisor_of (t ∷ ts) = common_divisor 0 (t ∷ ts)

-- the quotient, rounded down
abbrev pub floor : ℤ → ℕ → ℤ
floor z d = int_div_euclid z (pos d)

-- each factor divided
abbrev pub divided : ℕ → List RowTerm → List RowTerm
divided d [] = []
divided d (t ∷ ts) = record { var = t.var; factor = floor t.factor d } ∷ divided d ts

-- the magnitude is at most 2^90, the limit on the numbers of a row
abbrev pub is_within : ℤ → Bool
is_within z = nat_le (unsigned_abs z) (2 ^ 90)

abbrev pub all_within : List RowTerm → Bool
all_within [] = true
all_within (t ∷ ts) = is_within t.factor && all_within ts

-- the number, where a row may have it
abbrev pub number_within : ℤ → Option ℤ
number_within z = if is_within z then Some z else None

abbrev pub terms_within : List RowTerm → Option (List RowTerm)
terms_within ts = if all_within ts then Some ts else None

-- the inequality that says that a form is at most 0, in lowest terms
abbrev pub lowest : Form → Inequality
lowest form = record {
  terms = divided (divisor_of form.terms) form.terms;
  constant = floor (neg_ℤ form.constant) (divisor_of form.terms);
}

abbrev pub row_fits : Inequality → Bool
row_fits row = all_within row.terms && is_within row.constant

-- that inequality, where its numbers have magnitudes of at most 2^90
abbrev pub row_of : Form → Option Inequality
row_of form = if row_fits (lowest form) then Some (lowest form) else None

-- ascending variables, no factor 0, factors without a common divisor, magnitudes of at most 2^90
pub record IsRow (terms : List RowTerm) (constant : ℤ) : Type 0 where
  pub ascending : IsAscending terms
  pub nonzero : HasNoZero terms
  pub lowest : divisor_of terms ≡ 1
  pub terms_within : all_within terms ≡ true
  pub constant_within : is_within constant ≡ true
