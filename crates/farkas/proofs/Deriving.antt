-- Each row of a run follows from the given ones by its multipliers.
use Rattle.std.proofs.Common.{◌≡◌, sym, ap, ◌∙◌, ℕ, zero, suc, ◌*◌, ◌/◌, ◌<◌, max, ℤ, pos, ◌+ℤ◌, ◌*ℤ◌, List, arith}
use Rattle.std.proofs.lemmas.Int.{ints}
use Rattle.std.proofs.Math.Nat.{mul-div_cancel', mul-pos}
use Rattle.linear_rows.specs.declared.rows.RowTerm.{RowTerm}
use Rattle.linear_rows.specs.Rows.{Inequality, Valuation, sum_at}
use Rattle.linear_rows.specs.NormalForm.{divided, floor}
use Rattle.linear_rows.proofs.Integers.{mul-add, add-mul, mul_assoc}
use Rattle.linear_rows.proofs.Combining.{sum_at-weighted}
use Rattle.linear_rows.proofs.Normal.{sum_at-divided}
use Rattle.linear_rows.proofs.Rounding.{floor_exact}
use Rattle.row_elimination.specs.declared.weights.Support.{Support}
use Rattle.farkas.specs.Evidence.{EachNamed}
use Rattle.row_elimination.specs.Weights.{common_factor, divided_multipliers, weighted_support, combined_support}
use Rattle.row_elimination.specs.Derivations.{Derivation, left_at, weighted_sum, sum_terms, sum_last, sum_constant, sum_divisor}
use Rattle.row_elimination.proofs.Summing.{divisor_divides, divisor_divides_numbers, divisor_positive}
use Rattle.farkas.proofs.Rings.{derived_number}
use Rattle.farkas.proofs.Totals.{total, total-weighted, total-divided, support_divides, named-scaled, named-summed, named-divided}

-- the number of a row is its multiplied sum over the given rows, divided by the divisor
abbrev pub Supports : List Inequality → (Inequality → ℤ) → Support → ℤ → Type 0
Supports rows f s x = pos s.divisor *ℤ x ≡ total f rows s.multipliers

-- the left side of a given row at a valuation
abbrev pub side_at : Valuation → Inequality → ℤ
side_at v row = sum_at v row.terms

abbrev pub constant_of : Inequality → ℤ
constant_of row = row.constant

-- the row follows, where the last variable is the sum of some terms
pub record IsDerived (rows : List Inequality) (tested : List RowTerm) (r : Derivation) : Type 0 where
  pub positive : 0 < r.support.divisor
  pub named : EachNamed rows r.support.multipliers
  pub left : (v : Valuation) → Supports rows (side_at v) r.support (left_at v (sum_at v tested) r)
  pub constant : Supports rows constant_of r.support r.constant

-- 1/g of a times one plus b times another is supported by the combined support
pub support_combined : (rows : List Inequality) (f : Inequality → ℤ) (a b g : ℕ) (s t : Support) (p n r : ℤ) → 0 < s.divisor → 0 < t.divisor → 0 < g →
    Supports rows f s p → Supports rows f t n → pos g *ℤ r ≡ (pos a *ℤ p) +ℤ (pos b *ℤ n) → Supports rows f (combined_support a s b t g) r
support_combined rows f a b g s t p n r ps pt pg e k m =
    let whole : Support = weighted_support a s b t g in
    let h : ℕ = max (common_factor whole.divisor whole.multipliers) 1 in
    let divides = support_divides whole.divisor whole.multipliers in
    derived_number a b s.divisor t.divisor g h (whole.divisor / h) p n r (total f rows s.multipliers) (total f rows t.multipliers) (total f rows (divided_multipliers h whole.multipliers)) e k m
    (mul-div_cancel' h divides.0) (omega arith)
    (total-divided f rows h whole.multipliers divides.1 ∙ total-weighted f rows (a * t.divisor) s.multipliers (b * s.divisor) t.multipliers)

pub support_positive : (a b g : ℕ) (s t : Support) → 0 < s.divisor → 0 < t.divisor → 0 < g → 0 < (combined_support a s b t g).divisor
support_positive a b g s t ps pt pg =
    let whole : Support = weighted_support a s b t g in
    let h : ℕ = max (common_factor whole.divisor whole.multipliers) 1 in
    let divides = support_divides whole.divisor whole.multipliers in
    let exact : h * (whole.divisor / h) ≡ whole.divisor = mul-div_cancel' h divides.0 in
    let above : 0 < whole.divisor = mul-pos (mul-pos ps pt) pg in
    positive_part h (whole.divisor / h) whole.divisor exact above
  where
    positive_part : (h d n : ℕ) → h * d ≡ n → 0 < n → 0 < d
    positive_part h zero n e k = absurd (omega arith)
    positive_part h (suc d) n e k = omega arith

pub support_named : (rows : List Inequality) (a b g : ℕ) (s t : Support) → EachNamed rows s.multipliers → EachNamed rows t.multipliers → EachNamed rows (combined_support a s b t g).multipliers
support_named rows a b g s t hs ht =
    let whole : Support = weighted_support a s b t g in
    let h : ℕ = max (common_factor whole.divisor whole.multipliers) 1 in
    named-divided rows h whole.multipliers
    (named-summed rows _ _ (named-scaled rows (a * t.divisor) s.multipliers hs) (named-scaled rows (b * s.divisor) t.multipliers ht))

-- the divided sum, times the divisor, at a valuation and a number of the last variable
pub sum_left : (v : Valuation) (z : ℤ) (a b : ℕ) (p n : Derivation) →
    pos (sum_divisor a p b n) *ℤ left_at v z (weighted_sum a p b n) ≡ (pos a *ℤ left_at v z p) +ℤ (pos b *ℤ left_at v z n)
sum_left v z a b p n =
    let terms : List RowTerm = sum_terms a p b n in
    let last : ℤ = sum_last a p b n in
    let constant : ℤ = sum_constant a p b n in
    let g : ℕ = sum_divisor a p b n in
    let above : 0 < g = divisor_positive terms last constant in
    let exact = sum_at-divided v g terms above (divisor_divides terms last constant) in
    let weighed = sum_at-weighted v (pos a) p.terms (pos b) n.terms in
    let first = mul-add (pos g) (sum_at v (divided g terms)) (floor last g *ℤ z) in
    let second : pos g *ℤ (floor last g *ℤ z) ≡ last *ℤ z = sym (mul_assoc (pos g) (floor last g) z) ∙ ap (λ (x : ℤ). x *ℤ z) (floor_exact last g above (divisor_divides_numbers terms last constant).0) in
    let third = add-mul (pos a *ℤ p.last) (pos b *ℤ n.last) z in
    let fourth = mul_assoc (pos a) p.last z in
    let fifth = mul_assoc (pos b) n.last z in
    let sixth = mul-add (pos a) (sum_at v p.terms) (p.last *ℤ z) in
    let seventh = mul-add (pos b) (sum_at v n.terms) (n.last *ℤ z) in
    omega (arith, ints)

pub sum_number : (a b : ℕ) (p n : Derivation) →
    pos (sum_divisor a p b n) *ℤ (weighted_sum a p b n).constant ≡ (pos a *ℤ p.constant) +ℤ (pos b *ℤ n.constant)
sum_number a b p n =
    floor_exact (sum_constant a p b n) (sum_divisor a p b n) (divisor_positive (sum_terms a p b n) (sum_last a p b n) (sum_constant a p b n))
    (divisor_divides_numbers (sum_terms a p b n) (sum_last a p b n) (sum_constant a p b n)).1

-- a combination follows where both rows do
pub sum_derived : (rows : List Inequality) (tested : List RowTerm) (a b : ℕ) (p n : Derivation) → IsDerived rows tested p → IsDerived rows tested n → IsDerived rows tested (weighted_sum a p b n)
sum_derived rows tested a b p n hp hn =
    let g : ℕ = sum_divisor a p b n in
    let above : 0 < g = divisor_positive (sum_terms a p b n) (sum_last a p b n) (sum_constant a p b n) in
    record {
      positive = support_positive a b g p.support n.support hp.positive hn.positive above;
      named = support_named rows a b g p.support n.support hp.named hn.named;
      left = λ v. support_combined rows (side_at v) a b g p.support n.support (left_at v (sum_at v tested) p) (left_at v (sum_at v tested) n) _ hp.positive hn.positive above (hp.left v) (hn.left v)
          (sum_left v (sum_at v tested) a b p n);
      constant = support_combined rows constant_of a b g p.support n.support p.constant n.constant _ hp.positive hn.positive above hp.constant hn.constant (sum_number a b p n);
    }
