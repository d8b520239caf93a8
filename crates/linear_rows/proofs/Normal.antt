-- The normal form holds of the integer valuations of its form, and is a row.
use Rattle.std.proofs.Common.{negsuc, ◌≡◌, ◌≢◌, refl, sym, ap, ◌∙◌, subst, ℕ, ◌*◌, ◌<◌, ◌≤◌, ℤ, pos, neg_ℤ, ◌+ℤ◌, ◌*ℤ◌, ◌≤ℤ◌, List, [], ◌∷◌, Bool, true, false, Some, None, arith}
use Rattle.std.specs.Prelude.{if◌then◌else◌, unsigned_abs, ◌↔◌, ◌&&◌, IfSome}
use Rattle.std.specs.Int.{◌∣◌}
use Rattle.std.proofs.Math.IntN.{neg_ℤ-neg_ℤ, *ℤ-zero}
use Rattle.std.proofs.Math.Nat.{div-one, mul-dvd-mul_left, dvd_of_mul-dvd-mul_left}
use Rattle.std.proofs.lemmas.Nat.Gcd.{le_of_dvd}
use Rattle.std.proofs.lemmas.Int.{ints, unsigned_abs-mul}
use Rattle.linear_rows.specs.declared.rows.Var.{Var}
use Rattle.linear_rows.specs.declared.rows.RowTerm.{RowTerm}
use Rattle.linear_rows.specs.declared.forms.Form.{Form}
use Rattle.linear_rows.specs.Rows.{Inequality, Valuation, sum_at, Holds}
use Rattle.linear_rows.specs.Terms.{Follows, IsAscending, HasNoZero, IsCollected}
use Rattle.linear_rows.specs.Forms.{value_at, form_of}
use Rattle.linear_rows.specs.NormalForm.{DividesEach, floor, divided, divisor_of, is_within, all_within, lowest, row_fits, row_of, IsRow}
use Rattle.linear_rows.proofs.Integers.{mul-add, mul_assoc}
use Rattle.linear_rows.proofs.Divisors.{divisor_of-divides, divides-divisor_of, divisor_of-positive}
use Rattle.linear_rows.proofs.Rounding.{floor_exact, floor_holds, holds_floor}

pub sum_at-divided : (v : Valuation) (d : ℕ) (ts : List RowTerm) → 0 < d → DividesEach d ts → pos d *ℤ sum_at v (divided d ts) ≡ sum_at v ts
sum_at-divided v d [] h k = *ℤ-zero (pos d)
sum_at-divided v d (t ∷ ts) h k =
    let rest = sum_at-divided v d ts h k.1 in
    let whole = mul-add (pos d) (floor t.factor d *ℤ v t.var) (sum_at v (divided d ts)) in
    let first = mul_assoc (pos d) (floor t.factor d) (v t.var) in
    let exact : (pos d *ℤ floor t.factor d) *ℤ v t.var ≡ t.factor *ℤ v t.var = ap (λ z. z *ℤ v t.var) (floor_exact t.factor d h k.0) in
    omega (arith, ints)

Follows-divided : (v : Var) (d : ℕ) (ts : List RowTerm) → Follows v ts → Follows v (divided d ts)
Follows-divided v d [] h = tt
Follows-divided v d (t ∷ ts) h = (h.0, Follows-divided v d ts h.1)

pub IsAscending-divided : (d : ℕ) (ts : List RowTerm) → IsAscending ts → IsAscending (divided d ts)
IsAscending-divided d [] h = tt
IsAscending-divided d (t ∷ ts) h = (Follows-divided t.var d ts h.0, IsAscending-divided d ts h.1)

still_not_zero : (z : ℤ) (d : ℕ) → 0 < d → d ∣ unsigned_abs z → z ≢ pos 0 → floor z d ≢ pos 0
still_not_zero z d h k other e = other (sym (floor_exact z d h k) ∙ ap (λ x. pos d *ℤ x) e ∙ *ℤ-zero (pos d))

pub HasNoZero-divided : (d : ℕ) (ts : List RowTerm) → 0 < d → DividesEach d ts → HasNoZero ts → HasNoZero (divided d ts)
HasNoZero-divided d [] h k n = tt
HasNoZero-divided d (t ∷ ts) h k n = (still_not_zero t.factor d h k.0 n.0, HasNoZero-divided d ts h k.1 n.1)

-- what divides the divided factors divides, times the divisor, the factors
divides_more : (e d : ℕ) (z : ℤ) → 0 < d → d ∣ unsigned_abs z → e ∣ unsigned_abs (floor z d) → d * e ∣ unsigned_abs z
divides_more e d z h k m =
    subst (λ x. d * e ∣ x) (sym (unsigned_abs-mul (pos d) (floor z d)) ∙ ap unsigned_abs (floor_exact z d h k))
    (mul-dvd-mul_left e d m)

DividesEach-divided : (e d : ℕ) (ts : List RowTerm) → 0 < d → DividesEach d ts → DividesEach e (divided d ts) → DividesEach (d * e) ts
DividesEach-divided e d [] h k m = tt
DividesEach-divided e d (t ∷ ts) h k m = (divides_more e d t.factor h k.0 m.0, DividesEach-divided e d ts h k.1 m.1)

one_of : (d e : ℕ) → 0 < d → 0 < e → d * e ∣ d → e ≡ 1
one_of d e h k m =
    let n : d * e ∣ d * 1 = subst (λ x. d * e ∣ x) (omega arith) m in
    let o : e ≤ 1 = le_of_dvd (omega arith) (dvd_of_mul-dvd-mul_left e h n) in
    omega arith

-- after the division the factors have no common divisor
pub divisor_of-divided : (ts : List RowTerm) → HasNoZero ts → divisor_of (divided (divisor_of ts) ts) ≡ 1
divisor_of-divided [] h = refl
divisor_of-divided (t ∷ ts) h =
    let all : List RowTerm = t ∷ ts in
    let d : ℕ = divisor_of all in
    let positive : 0 < d = divisor_of-positive all h in
    let divides : DividesEach d all = divisor_of-divides all in
    let parts : List RowTerm = divided d all in
    let e : ℕ = divisor_of parts in
    one_of d e positive (divisor_of-positive parts (HasNoZero-divided d all positive divides h))
    (divides-divisor_of (d * e) t ts (DividesEach-divided e d all positive divides (divisor_of-divides parts)))

-- the constant rounded down loses no integer valuation, and lets none in
pub holds_divided : (v : Valuation) (f : Form) → HasNoZero f.terms →
    (sum_at v (divided (divisor_of f.terms) f.terms) ≤ℤ floor (neg_ℤ f.constant) (divisor_of f.terms)) ↔ (value_at v f ≤ℤ pos 0)
holds_divided v f h =
    let d : ℕ = divisor_of f.terms in
    let positive : 0 < d = divisor_of-positive f.terms h in
    let s : ℤ = sum_at v (divided d f.terms) in
    let exact : pos d *ℤ s ≡ sum_at v f.terms = sum_at-divided v d f.terms positive (divisor_of-divides f.terms) in (
      λ k. let m : (pos d *ℤ s) ≤ℤ neg_ℤ f.constant = floor_holds (neg_ℤ f.constant) s d positive k in
          let n : sum_at v f.terms ≤ℤ neg_ℤ f.constant = subst (λ x. x ≤ℤ neg_ℤ f.constant) exact m in
          moved_left (sum_at v f.terms) f.constant n,
      λ k. let n : sum_at v f.terms ≤ℤ neg_ℤ f.constant = moved_right (sum_at v f.terms) f.constant k in
          holds_floor (neg_ℤ f.constant) s d positive (subst (λ x. x ≤ℤ neg_ℤ f.constant) (sym exact) n),
    )
  where
    moved_left : (s k : ℤ) → s ≤ℤ neg_ℤ k → (s +ℤ k) ≤ℤ pos 0
    moved_left s k h = omega (arith, ints)

    moved_right : (s k : ℤ) → (s +ℤ k) ≤ℤ pos 0 → s ≤ℤ neg_ℤ k
    moved_right s k h = omega (arith, ints)

pub if_some : {A : Type 0} (P : A → Type 0) (b : Bool) (x : A) → (b ≡ true → P x) → IfSome (if b then Some x else None) P
if_some P true x h = h refl
if_some P false x h = tt

pub row_of_holds : (v : Valuation) (f : Form) → HasNoZero f.terms → IfSome (row_of f) (λ row. Holds v row ↔ (value_at v f ≤ℤ pos 0))
row_of_holds v f h =
    if_some {A = Inequality} (λ row. Holds v row ↔ (value_at v f ≤ℤ pos 0)) (row_fits (lowest f)) (lowest f) (λ e. holds_divided v f h)

pub both_true : (a b : Bool) → (a && b) ≡ true → (a ≡ true) × (b ≡ true)
both_true true b h = (refl, h)
both_true false b h = absurd (cc)

pub lowest_is_row : (f : Form) → IsCollected f.terms → row_fits (lowest f) ≡ true → IsRow (lowest f).terms (lowest f).constant
lowest_is_row f h e =
    let d : ℕ = divisor_of f.terms in
    let positive : 0 < d = divisor_of-positive f.terms h.nonzero in
    let within = both_true (all_within (divided d f.terms)) (is_within (floor (neg_ℤ f.constant) d)) e in
    record {
      ascending = IsAscending-divided d f.terms h.ascending;
      nonzero = HasNoZero-divided d f.terms positive (divisor_of-divides f.terms) h.nonzero;
      lowest = divisor_of-divided f.terms h.nonzero;
      terms_within = within.0;
      constant_within = within.1;
    }

pub row_of_is_row : (f : Form) → IsCollected f.terms → IfSome (row_of f) (λ row. IsRow row.terms row.constant)
row_of_is_row f h = if_some {A = Inequality} (λ row. IsRow row.terms row.constant) (row_fits (lowest f)) (lowest f) (λ e. lowest_is_row f h e)

floor_one : (z : ℤ) → floor z 1 ≡ z
floor_one (pos n) = ap pos (div-one n)
floor_one (negsuc n) = ap negsuc (div-one n)

divided_one : (ts : List RowTerm) → divided 1 ts ≡ ts
divided_one [] = refl
divided_one (t ∷ ts) = λ i. record { var = t.var; factor = floor_one t.factor i } ∷ divided_one ts i

-- a row is its own normal form
pub row_of_row : (row : Inequality) → IsRow row.terms row.constant → row_of (form_of row) ≡ Some row
row_of_row row h =
    let same : lowest (form_of row) ≡ row =
    ap (λ (d : ℕ). lowest_by d) h.lowest ∙ (λ i. record { terms = divided_one row.terms i; constant = (ap (λ (z : ℤ). floor z 1) (neg_ℤ-neg_ℤ row.constant) ∙ floor_one row.constant) i }) in
    let fits : row_fits (lowest (form_of row)) ≡ true = ap row_fits same ∙ both_fit (all_within row.terms) (is_within row.constant) h.terms_within h.constant_within in
    ap (λ (b : Bool). if b then Some (lowest (form_of row)) else None) fits ∙ ap (λ (r : Inequality). Some r) same
  where
    lowest_by : ℕ → Inequality
    lowest_by d = record { terms = divided d row.terms; constant = floor (neg_ℤ (neg_ℤ row.constant)) d }

    both_fit : (a b : Bool) → a ≡ true → b ≡ true → (a && b) ≡ true
    both_fit true b e f = f
    both_fit false b e f = absurd (cc)
