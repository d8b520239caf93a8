-- The multipliers of a row that is left prove the tested row, or that no point meets the given rows.
use Rattle.std.proofs.Common.{◌≡◌, refl, sym, ap, ◌∙◌, subst, ℕ, ◌*◌, ◌<◌, ℤ, pos, negsuc, neg_ℤ, ◌+ℤ◌, ◌*ℤ◌, ◌≤ℤ◌, ◌<ℤ◌, List, [], ◌∷◌, Bool, true, false, inl, arith}
use Rattle.std.specs.Prelude.{if◌then◌else◌, ◌&&◌, int_lt, unsigned_abs}
use Rattle.std.proofs.lemmas.Int.{ints}
use Rattle.std.proofs.Math.Nat.{mul-pos}
use Rattle.std.proofs.Math.IntN.{zero-*ℤ, *ℤ-zero, *ℤ_comm}
use Rattle.std.specs.declared.cmp.Ordering.{Ordering}
use Rattle.std.specs.declared.cmp.Ordering.TheVariants.{Less}
use Rattle.std.specs.Ordering.{is_eq, int_eq}
use Rattle.linear_rows.specs.declared.rows.Var.{Var}
use Rattle.linear_rows.specs.declared.rows.RowTerm.{RowTerm}
use Rattle.linear_rows.specs.Variables.{var_cmp}
use Rattle.linear_rows.specs.Rows.{Inequality, Valuation, sum_at}
use Rattle.linear_rows.specs.Terms.{IsCollected, Follows, IsAscending, HasNoZero, scaled_terms}
use Rattle.linear_rows.proofs.VariableOrder.{same_var, equal_itself, greater_less}
use Rattle.linear_rows.proofs.Integers.{neg-mul, mul-neg}
use Rattle.linear_rows.proofs.TermLists.{by_order, follows_before, IsAscending-scaled, is_zero_of}
use Rattle.linear_rows.proofs.Values.{sum_at-scaled}
use Rattle.linear_rows.proofs.Rounding.{mul_monotone}
use Rattle.linear_rows.proofs.Combining.{sum_at-weighted, weighted_collected}
use Rattle.row_elimination.specs.declared.weights.Multiplier.{Multiplier}
use Rattle.row_elimination.specs.declared.weights.Support.{Support}
use Rattle.farkas.specs.Evidence.{row_at, combined_terms, combined_constant, IsProof, IsEmptyProof}
use Rattle.row_elimination.specs.Weights.{combined_support}
use Rattle.row_elimination.specs.Derivations.{Derivation, left_at}
use Rattle.row_elimination.specs.Steps.{has_no_terms}
use Rattle.farkas.specs.Deciding.{last_limit, is_at_most, is_negative_sum}
use Rattle.row_elimination.specs.Steps.{is_absurd, bounds_last}
use Rattle.farkas.proofs.Soundness.{one-mul, less_times}
use Rattle.farkas.proofs.Rings.{together, regroup, cancel_same}
use Rattle.farkas.proofs.Totals.{total}
use Rattle.farkas.proofs.Deriving.{IsDerived, side_at, constant_of, support_combined, support_positive, support_named}

pub combined_side : (v : Valuation) (rows : List Inequality) (ms : List Multiplier) → sum_at v (combined_terms rows ms) ≡ total (side_at v) rows ms
combined_side v rows [] = refl
combined_side v rows (m ∷ ms) =
    let e = sum_at-weighted v (pos m.factor) (row_at rows m.row).terms (pos 1) (combined_terms rows ms) in
    let f = one-mul (sum_at v (combined_terms rows ms)) in let g = combined_side v rows ms in omega (arith, ints)

pub combined_number : (rows : List Inequality) (ms : List Multiplier) → combined_constant rows ms ≡ total constant_of rows ms
combined_number rows [] = refl
combined_number rows (m ∷ ms) =
    let f = one-mul (combined_constant rows ms) in let g = combined_number rows ms in omega (arith, ints)

pub combined_is_collected : (rows : List Inequality) (ms : List Multiplier) → IsCollected (combined_terms rows ms)
combined_is_collected rows [] = record { ascending = tt; nonzero = tt }
combined_is_collected rows (m ∷ ms) =
    weighted_collected (pos m.factor) (row_at rows m.row).terms (pos 1) (combined_terms rows ms) (combined_is_collected rows ms).ascending

-- 1 for one variable, 0 for all others
abbrev pub unit : Var → Valuation
unit x y = if is_eq (var_cmp x y) then pos 1 else pos 0

unit_other : (x y : Var) → var_cmp x y ≡ Less → unit x y ≡ pos 0
unit_other x y e = ap (λ (o : Ordering). if is_eq o then pos 1 else pos 0) e

unit_itself : (x : Var) → unit x x ≡ pos 1
unit_itself x = ap (λ (o : Ordering). if is_eq o then pos 1 else pos 0) (equal_itself x)

pub unit_behind : (x : Var) (ts : List RowTerm) → Follows x ts → sum_at (unit x) ts ≡ pos 0
unit_behind x [] h = refl
unit_behind x (t ∷ ts) h =
    let e : t.factor *ℤ unit x t.var ≡ pos 0 = ap (λ (z : ℤ). t.factor *ℤ z) (unit_other x t.var h.0) ∙ *ℤ-zero t.factor in
    let f = unit_behind x ts h.1 in omega (arith, ints)

pub unit_first : (t : RowTerm) (ts : List RowTerm) → Follows t.var ts → sum_at (unit t.var) (t ∷ ts) ≡ t.factor
unit_first t ts h =
    let e : t.factor *ℤ unit t.var t.var ≡ t.factor *ℤ pos 1 = ap (λ (z : ℤ). t.factor *ℤ z) (unit_itself t.var) in
    let f = *ℤ_comm t.factor (pos 1) in let g = one-mul t.factor in
    let k = unit_behind t.var ts h in omega (arith, ints)

-- terms with equal sums at each valuation are the same
pub same_terms : (xs ys : List RowTerm) → IsAscending xs → HasNoZero xs → IsAscending ys → HasNoZero ys → ((v : Valuation) → sum_at v xs ≡ sum_at v ys) → xs ≡ ys
same_terms [] [] ax nx ay ny e = refl
same_terms [] (y ∷ ys) ax nx ay ny e = absurd (ny.0 (sym (unit_first y ys ay.0) ∙ sym (e (unit y.var))))
same_terms (x ∷ xs) [] ax nx ay ny e = absurd (nx.0 (sym (unit_first x xs ax.0) ∙ e (unit x.var)))
same_terms (x ∷ xs) (y ∷ ys) ax nx ay ny e =
    by_order x.var y.var
    (λ less. absurd (nx.0 (sym (unit_first x xs ax.0) ∙ e (unit x.var) ∙ unit_behind x.var (y ∷ ys) (less, follows_before x.var y.var ys less ay.0))))
    (λ equal.
    let var : x.var ≡ y.var = same_var x.var y.var equal in
    let follows : Follows x.var ys = subst (λ (v : Var). Follows v ys) (sym var) ay.0 in
    let first : sum_at (unit x.var) (y ∷ ys) ≡ y.factor = ap (λ (v : Var). sum_at (unit v) (y ∷ ys)) var ∙ unit_first y ys ay.0 in
    let factor : x.factor ≡ y.factor = sym (unit_first x xs ax.0) ∙ e (unit x.var) ∙ first in
    let rest = same_terms xs ys ax.1 nx.1 ay.1 ny.1 (λ v.
    let whole = e v in
    let k : x.factor *ℤ v x.var ≡ y.factor *ℤ v y.var = ap (λ (z : ℤ). z *ℤ v x.var) factor ∙ ap (λ (w : Var). y.factor *ℤ v w) var in omega (arith, ints)) in
    λ i. record { var = var i; factor = factor i } ∷ rest i)
    (λ greater.
    let less : var_cmp y.var x.var ≡ Less = greater_less x.var y.var greater in
    absurd (ny.0 (sym (unit_first y ys ay.0) ∙ sym (e (unit y.var)) ∙ unit_behind y.var (x ∷ xs) (less, follows_before y.var x.var xs less ax.0))))

pub bare : (ts : List RowTerm) → has_no_terms ts ≡ true → ts ≡ []
bare [] e = refl
bare (t ∷ ts) e = absurd (cc)

pub both_true : (a b : Bool) → (a && b) ≡ true → (a ≡ true) × (b ≡ true)
both_true true b e = (refl, e)
both_true false b e = absurd (cc)

pub lt_of : (a b : ℤ) → int_lt a b ≡ true → a <ℤ b
lt_of a b e = grind (arith, ints)

pub ge_of : (a b : ℤ) → int_lt a b ≡ false → b ≤ℤ a
ge_of a b e = grind (arith, ints)

-- a row without terms at a valuation
pub left_bare : (v : Valuation) (z : ℤ) (r : Derivation) → r.terms ≡ [] → left_at v z r ≡ r.last *ℤ z
left_bare v z r e = let f : sum_at v r.terms ≡ pos 0 = ap (sum_at v) e in omega (arith, ints)

negative_times : (d : ℕ) (c : ℤ) → 0 < d → c <ℤ pos 0 → (pos d *ℤ c) <ℤ pos 0
negative_times d c p n =
    let e = less_times c (pos 0) (pos d) (omega (arith, ints)) n in let f = *ℤ_comm c (pos d) in let g = zero-*ℤ (pos d) in omega (arith, ints)

-- a row that holds nowhere
pub absurd_proves : (rows : List Inequality) (tested : List RowTerm) (r : Derivation) → IsDerived rows tested r → is_absurd r ≡ true → IsEmptyProof rows r.support.multipliers
absurd_proves rows tested r h e =
    let parts = both_true (has_no_terms r.terms && int_eq r.last (pos 0)) (int_lt r.constant (pos 0)) e in
    let more = both_true (has_no_terms r.terms) (int_eq r.last (pos 0)) parts.0 in
    let terms = bare r.terms more.0 in
    let last : r.last ≡ pos 0 = is_zero_of r.last more.1 in
    let negative = lt_of r.constant (pos 0) parts.1 in
    record {
      named = h.named;
      shown = (
        same_terms (combined_terms rows r.support.multipliers) [] (combined_is_collected rows r.support.multipliers).ascending (combined_is_collected rows r.support.multipliers).nonzero tt tt
            (λ v. combined_side v rows r.support.multipliers ∙ sym (h.left v)
            ∙ ap (λ (z : ℤ). pos r.support.divisor *ℤ z) (left_bare v (sum_at v tested) r terms ∙ ap (λ (z : ℤ). z *ℤ sum_at v tested) last ∙ zero-*ℤ (sum_at v tested))
            ∙ *ℤ-zero (pos r.support.divisor)),
        (let f = combined_number rows r.support.multipliers in let g = h.constant in
            let k = negative_times r.support.divisor r.constant h.positive negative in omega (arith, ints)),
      );
    }

pub abs_above : (z : ℤ) → pos 0 <ℤ z → z ≡ pos (unsigned_abs z)
abs_above (pos n) h = refl
abs_above (negsuc n) h = absurd (omega (arith, ints))

pub abs_below : (z : ℤ) → z <ℤ pos 0 → z ≡ neg_ℤ (pos (unsigned_abs z))
abs_below (pos n) h = absurd (omega (arith, ints))
abs_below (negsuc n) h = refl

pub size_above : (z : ℤ) → pos 0 <ℤ z → 0 < unsigned_abs z
size_above (pos n) h = omega (arith, ints)
size_above (negsuc n) h = absurd (omega (arith, ints))

pub size_below : (z : ℤ) → z <ℤ pos 0 → 0 < unsigned_abs z
size_below (pos n) h = absurd (omega (arith, ints))
size_below (negsuc n) h = omega arith

pub HasNoZero-scaled : (d : ℕ) (ts : List RowTerm) → 0 < d → HasNoZero ts → HasNoZero (scaled_terms (pos d) ts)
HasNoZero-scaled d [] p h = tt
HasNoZero-scaled d (t ∷ ts) p h = (λ e. h.0 (cancel_same d t.factor (pos 0) p (e ∙ sym (*ℤ-zero (pos d)))), HasNoZero-scaled d ts p h.1)

pub not_false : (b : Bool) → (if b then false else true) ≡ true → b ≡ false
not_false true e = absurd (cc)
not_false false e = refl

-- an upper bound of the last variable that is low enough
pub upper_proves : (rows : List Inequality) (row : Inequality) (u : Derivation) → IsCollected row.terms → IsDerived rows row.terms u → bounds_last true u ≡ true → is_at_most row.constant u ≡ true →
    IsProof rows row u.support.multipliers (u.support.divisor * unsigned_abs u.last)
upper_proves rows row u collected h bounds e =
    let parts = both_true (has_no_terms u.terms) (int_lt (pos 0) u.last) bounds in
    let terms = bare u.terms parts.0 in
    let above = lt_of (pos 0) u.last parts.1 in
    let a : ℕ = unsigned_abs u.last in
    let last = abs_above u.last above in
    let size = size_above u.last above in
    let positive : 0 < u.support.divisor * a = mul-pos h.positive size in
    let sum = combined_is_collected rows u.support.multipliers in
    let low = ge_of (row.constant *ℤ pos a) (u.constant *ℤ pos 1) (not_false (int_lt (row.constant *ℤ pos a) (u.constant *ℤ pos 1)) e) in
    let one : u.constant *ℤ pos 1 ≡ u.constant = *ℤ_comm u.constant (pos 1) ∙ one-mul u.constant in
    let times = mul_monotone u.support.divisor u.constant (row.constant *ℤ pos a) (omega (arith, ints)) in
    let turned : pos u.support.divisor *ℤ (row.constant *ℤ pos a) ≡ pos (u.support.divisor * a) *ℤ row.constant =
    ap (λ (z : ℤ). pos u.support.divisor *ℤ z) (*ℤ_comm row.constant (pos a)) ∙ together u.support.divisor a row.constant in
    record {
      positive = positive;
      named = h.named;
      shown = inl (
        same_terms (combined_terms rows u.support.multipliers) (scaled_terms (pos (u.support.divisor * a)) row.terms) sum.ascending sum.nonzero
            (IsAscending-scaled (pos (u.support.divisor * a)) row.terms collected.ascending) (HasNoZero-scaled (u.support.divisor * a) row.terms positive collected.nonzero)
            (λ v. combined_side v rows u.support.multipliers ∙ sym (h.left v)
            ∙ ap (λ (z : ℤ). pos u.support.divisor *ℤ z) (left_bare v (sum_at v row.terms) u terms ∙ ap (λ (z : ℤ). z *ℤ sum_at v row.terms) last)
            ∙ together u.support.divisor a (sum_at v row.terms) ∙ sym (sum_at-scaled v (pos (u.support.divisor * a)) row.terms)),
        (let f = combined_number rows u.support.multipliers in let g = h.constant in omega (arith, ints)),
      );
    }

opposite : (a b : ℕ) (z : ℤ) → (pos b *ℤ (pos a *ℤ z)) +ℤ (pos a *ℤ (neg_ℤ (pos b) *ℤ z)) ≡ pos 0
opposite a b z =
    let e = neg-mul (pos b) z in
    let f : pos a *ℤ (neg_ℤ (pos b) *ℤ z) ≡ neg_ℤ (pos a *ℤ (pos b *ℤ z)) = ap (λ (x : ℤ). pos a *ℤ x) e ∙ mul-neg (pos a) (pos b *ℤ z) in
    let g = regroup b a a b z (omega arith) in omega (arith, ints)

-- a lower bound of the last variable that is above an upper one
pub bounds_prove : (rows : List Inequality) (tested : List RowTerm) (u l : Derivation) → IsDerived rows tested u → IsDerived rows tested l →
    bounds_last true u ≡ true → bounds_last false l ≡ true → is_negative_sum (last_limit u) (last_limit l) ≡ true →
    (0 < (combined_support (unsigned_abs l.last) u.support (unsigned_abs u.last) l.support 1).divisor)
    × IsEmptyProof rows (combined_support (unsigned_abs l.last) u.support (unsigned_abs u.last) l.support 1).multipliers
bounds_prove rows tested u l hu hl bu bl e =
    let pu = both_true (has_no_terms u.terms) (int_lt (pos 0) u.last) bu in
    let pl = both_true (has_no_terms l.terms) (int_lt l.last (pos 0)) bl in
    let a : ℕ = unsigned_abs u.last in
    let b : ℕ = unsigned_abs l.last in
    let lu = abs_above u.last (lt_of (pos 0) u.last pu.1) in
    let ll = abs_below l.last (lt_of l.last (pos 0) pl.1) in
    let one : 0 < 1 = omega arith in
    let s : Support = combined_support b u.support a l.support 1 in
    let positive = support_positive b a 1 u.support l.support hu.positive hl.positive one in
    let number : ℤ = (pos b *ℤ u.constant) +ℤ (pos a *ℤ l.constant) in
    let total_number = support_combined rows constant_of b a 1 u.support l.support u.constant l.constant number hu.positive hl.positive one hu.constant hl.constant (one-mul number) in
    let negative : number <ℤ pos 0 =
    (let f = lt_of ((u.constant *ℤ pos b) +ℤ (l.constant *ℤ pos a)) (pos 0) e in let g = *ℤ_comm u.constant (pos b) in let k = *ℤ_comm l.constant (pos a) in omega (arith, ints)) in
    let sum = combined_is_collected rows s.multipliers in (
      positive,
      record {
        named = support_named rows b a 1 u.support l.support hu.named hl.named;
        shown = (
          same_terms (combined_terms rows s.multipliers) [] sum.ascending sum.nonzero tt tt
              (λ v.
              let z : ℤ = sum_at v tested in
              let fu : left_at v z u ≡ pos a *ℤ z = left_bare v z u (bare u.terms pu.0) ∙ ap (λ (x : ℤ). x *ℤ z) lu in
              let fl : left_at v z l ≡ neg_ℤ (pos b) *ℤ z = left_bare v z l (bare l.terms pl.0) ∙ ap (λ (x : ℤ). x *ℤ z) ll in
              let whole : pos 1 *ℤ pos 0 ≡ (pos b *ℤ left_at v z u) +ℤ (pos a *ℤ left_at v z l) =
              sym (opposite a b z) ∙ ap (λ (x : ℤ). (pos b *ℤ x) +ℤ (pos a *ℤ (neg_ℤ (pos b) *ℤ z))) (sym fu) ∙ ap (λ (x : ℤ). (pos b *ℤ left_at v z u) +ℤ (pos a *ℤ x)) (sym fl) in
              combined_side v rows s.multipliers
              ∙ sym (support_combined rows (side_at v) b a 1 u.support l.support (left_at v z u) (left_at v z l) (pos 0) hu.positive hl.positive one (hu.left v) (hl.left v) whole)
              ∙ *ℤ-zero (pos s.divisor)),
          (let f = combined_number rows s.multipliers in let g = negative_times s.divisor number positive negative in omega (arith, ints)),
        );
      },
    )
