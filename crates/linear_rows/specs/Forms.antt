-- Forms: a sum of factors times variables, plus a constant.
use Rattle.std.specs.Prelude.{ℤ, neg_ℤ, ◌+ℤ◌, ◌*ℤ◌, ◌^◌, nat_lt, unsigned_abs, List, [], ◌∷◌, Bool, true, ◌&&◌, Option, Some, None, if◌then◌else◌}
use Rattle.linear_rows.specs.declared.rows.RowTerm.{RowTerm}
use Rattle.linear_rows.specs.declared.forms.Form.{Form}
use Rattle.linear_rows.specs.Rows.{Inequality, Valuation, sum_at}
use Rattle.linear_rows.specs.Terms.{scaled_terms, summed_terms, without_zeros}

-- the sum of the terms plus the constant
abbrev pub value_at : Valuation → Form → ℤ
value_at v form = sum_at v form.terms +ℤ form.constant

-- the form that is at most 0 exactly where the inequality holds
abbrev pub form_of : Inequality → Form
form_of row = record { terms = row.terms; constant = neg_ℤ row.constant }

-- the magnitude is below 2^127, the limit on what is made before a division
abbrev pub is_small : ℤ → Bool
is_small z = nat_lt (unsigned_abs z) (2 ^ 127)

-- the number, where it is
abbrev pub small : ℤ → Option ℤ
small z = if is_small z then Some z else None

abbrev pub all_small : List RowTerm → Bool
all_small [] = true
all_small (t ∷ ts) = is_small t.factor && all_small ts

-- each product and each sum of a times one list and b times another has a magnitude below 2^127
abbrev pub terms_stay_small : ℤ → List RowTerm → ℤ → List RowTerm → Bool
terms_stay_small a xs b ys =
    all_small (scaled_terms a xs) && all_small (scaled_terms b ys)
    && all_small (summed_terms (scaled_terms a xs) (scaled_terms b ys))

-- the same of two constants
abbrev pub constants_stay_small : ℤ → ℤ → ℤ → ℤ → Bool
constants_stay_small a m b n = is_small (a *ℤ m) && is_small (b *ℤ n) && is_small ((a *ℤ m) +ℤ (b *ℤ n))

abbrev pub weighted_terms : ℤ → List RowTerm → ℤ → List RowTerm → List RowTerm
weighted_terms a xs b ys = without_zeros (summed_terms (scaled_terms a xs) (scaled_terms b ys))

abbrev pub weighted_constant : ℤ → ℤ → ℤ → ℤ → ℤ
weighted_constant a m b n = (a *ℤ m) +ℤ (b *ℤ n)

abbrev pub weighted_terms_within : ℤ → List RowTerm → ℤ → List RowTerm → Option (List RowTerm)
weighted_terms_within a xs b ys = if terms_stay_small a xs b ys then Some (weighted_terms a xs b ys) else None

abbrev pub weighted_constant_within : ℤ → ℤ → ℤ → ℤ → Option ℤ
weighted_constant_within a m b n = if constants_stay_small a m b n then Some (weighted_constant a m b n) else None

-- a times one form plus b times another
abbrev pub weighted : ℤ → Form → ℤ → Form → Form
weighted a f b g =
    record { terms = weighted_terms a f.terms b g.terms; constant = weighted_constant a f.constant b g.constant }

-- the same, where each product and each sum stays below the limit
abbrev pub weighted_within : ℤ → Form → ℤ → Form → Option Form
weighted_within a f b g =
    if terms_stay_small a f.terms b g.terms && constants_stay_small a f.constant b g.constant
    then Some (weighted a f b g)
    else None
