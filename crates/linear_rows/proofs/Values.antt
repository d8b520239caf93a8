-- What the sums, the multiples and the parts of a list of terms are at a valuation.
use Rattle.std.proofs.Common.{◌≡◌, refl, sym, ap, ◌∙◌, ℤ, pos, ◌+ℤ◌, ◌*ℤ◌, List, [], ◌∷◌, arith}
use Rattle.std.proofs.lemmas.Int.{ints}
use Rattle.std.proofs.Math.IntN.{*ℤ-zero, zero-*ℤ}
use Rattle.std.specs.declared.cmp.Ordering.TheVariants.{Equal}
use Rattle.linear_rows.specs.declared.rows.RowTerm.{RowTerm}
use Rattle.linear_rows.specs.Variables.{var_cmp}
use Rattle.linear_rows.specs.Rows.{Valuation, sum_at}
use Rattle.linear_rows.specs.Terms.{scaled_terms, with_term, summed_terms, without_zeros}
use Rattle.linear_rows.proofs.VariableOrder.{same_var}
use Rattle.linear_rows.proofs.Integers.{add-mul, mul-add, mul_assoc}
use Rattle.linear_rows.proofs.TermLists.{both, with_less, with_equal, with_greater, by_order, zero_or_not, without_zeros_left, without_zeros_kept, is_zero_of}

abbrev pub term_at : Valuation → RowTerm → ℤ
term_at v t = t.factor *ℤ v t.var

both_at : (v : Valuation) (x t : RowTerm) → var_cmp x.var t.var ≡ Equal → term_at v (both x t) ≡ term_at v x +ℤ term_at v t
both_at v x t e =
    let same : v x.var ≡ v t.var = ap v (same_var x.var t.var e) in
    add-mul x.factor t.factor (v t.var) ∙ ap (λ n. (x.factor *ℤ n) +ℤ term_at v t) (sym same)

pub sum_at-with_term : (v : Valuation) (x : RowTerm) (ts : List RowTerm) → sum_at v (with_term x ts) ≡ term_at v x +ℤ sum_at v ts
sum_at-with_term v x [] = refl
sum_at-with_term v x (t ∷ ts) =
    by_order x.var t.var
    (λ less. ap (sum_at v) (with_less x t ts less))
    (λ equal. let e = both_at v x t equal in ap (sum_at v) (with_equal x t ts equal) ∙ omega (arith, ints))
    (λ greater. let e = sum_at-with_term v x ts in ap (sum_at v) (with_greater x t ts greater) ∙ omega (arith, ints))

pub sum_at-summed : (v : Valuation) (xs ys : List RowTerm) → sum_at v (summed_terms xs ys) ≡ sum_at v xs +ℤ sum_at v ys
sum_at-summed v [] ys = omega (arith, ints)
sum_at-summed v (x ∷ xs) ys =
    let e = sum_at-with_term v x (summed_terms xs ys) in let f = sum_at-summed v xs ys in omega (arith, ints)

pub sum_at-scaled : (v : Valuation) (a : ℤ) (ts : List RowTerm) → sum_at v (scaled_terms a ts) ≡ a *ℤ sum_at v ts
sum_at-scaled v a [] = sym (*ℤ-zero a)
sum_at-scaled v a (t ∷ ts) =
    let e = sum_at-scaled v a ts in let f = mul_assoc a t.factor (v t.var) in
    let g = mul-add a (term_at v t) (sum_at v ts) in omega (arith, ints)

pub sum_at-without_zeros : (v : Valuation) (ts : List RowTerm) → sum_at v (without_zeros ts) ≡ sum_at v ts
sum_at-without_zeros v [] = refl
sum_at-without_zeros v (t ∷ ts) =
    let rest = sum_at-without_zeros v ts in
    zero_or_not t.factor
    (λ e. let f : term_at v t ≡ pos 0 = ap (λ z. z *ℤ v t.var) (is_zero_of t.factor e) ∙ zero-*ℤ (v t.var) in
    ap (sum_at v) (without_zeros_left t ts e) ∙ omega (arith, ints))
    (λ e. ap (sum_at v) (without_zeros_kept t ts e) ∙ ap (λ n. term_at v t +ℤ n) rest)
