-- Weighted sums of forms and rows at a valuation, and a form in place of a variable.
use Rattle.std.proofs.Common.{◌≡◌, refl, sym, ap, subst, ℕ, suc, ℤ, pos, negsuc, neg_ℤ, ◌+ℤ◌, ◌*ℤ◌, ◌≤ℤ◌, List, [], ◌∷◌, Bool, true, false, Option, Some, None, arith}
use Rattle.std.specs.Prelude.{if◌then◌else◌, ◌↔◌, ◌&&◌, IfSome, option_and_then}
use Rattle.std.proofs.lemmas.Int.{ints}
use Rattle.std.proofs.Math.Nat.{one-mul}
use Rattle.std.proofs.Math.IntN.{zero-*ℤ}
use Rattle.std.specs.declared.cmp.Ordering.{Ordering}
use Rattle.std.specs.declared.cmp.Ordering.TheVariants.{Less, Equal, Greater}
use Rattle.std.specs.Ordering.{is_eq}
use Rattle.linear_rows.specs.declared.rows.Var.{Var}
use Rattle.linear_rows.specs.declared.rows.RowTerm.{RowTerm}
use Rattle.linear_rows.specs.declared.forms.Form.{Form}
use Rattle.linear_rows.specs.Variables.{var_cmp}
use Rattle.linear_rows.specs.Rows.{Inequality, Valuation, sum_at, Holds, changed}
use Rattle.linear_rows.specs.Terms.{Follows, IsAscending, IsCollected, scaled_terms, summed_terms, factor_of, without_var}
use Rattle.linear_rows.specs.Forms.{value_at, form_of, weighted_terms, weighted, weighted_within, terms_stay_small, constants_stay_small}
use Rattle.linear_rows.specs.NormalForm.{row_of}
use Rattle.linear_rows.specs.Combinations.{combined, substituted}
use Rattle.linear_rows.proofs.VariableOrder.{same_var}
use Rattle.linear_rows.proofs.Integers.{mul-add, mul-neg}
use Rattle.linear_rows.proofs.TermLists.{IsAscending-scaled, IsAscending-summed, IsAscending-without_zeros, HasNoZero-without_zeros}
use Rattle.linear_rows.proofs.Values.{sum_at-summed, sum_at-scaled, sum_at-without_zeros}
use Rattle.linear_rows.proofs.Rounding.{mul_monotone}
use Rattle.linear_rows.proofs.Normal.{row_of_holds}

pub sum_at-weighted : (v : Valuation) (a : ℤ) (xs : List RowTerm) (b : ℤ) (ys : List RowTerm) →
    sum_at v (weighted_terms a xs b ys) ≡ (a *ℤ sum_at v xs) +ℤ (b *ℤ sum_at v ys)
sum_at-weighted v a xs b ys =
    let e = sum_at-without_zeros v (summed_terms (scaled_terms a xs) (scaled_terms b ys)) in
    let f = sum_at-summed v (scaled_terms a xs) (scaled_terms b ys) in
    let g = sum_at-scaled v a xs in let h = sum_at-scaled v b ys in omega (arith, ints)

pub value_at-weighted : (v : Valuation) (a : ℤ) (f : Form) (b : ℤ) (g : Form) →
    value_at v (weighted a f b g) ≡ (a *ℤ value_at v f) +ℤ (b *ℤ value_at v g)
value_at-weighted v a f b g =
    let e = sum_at-weighted v a f.terms b g.terms in
    let h = mul-add a (sum_at v f.terms) f.constant in
    let k = mul-add b (sum_at v g.terms) g.constant in omega (arith, ints)

pub weighted_collected : (a : ℤ) (xs : List RowTerm) (b : ℤ) (ys : List RowTerm) → IsAscending ys → IsCollected (weighted_terms a xs b ys)
weighted_collected a xs b ys h = record {
  ascending = IsAscending-without_zeros (summed_terms (scaled_terms a xs) (scaled_terms b ys)) (IsAscending-summed (scaled_terms a xs) (scaled_terms b ys) (IsAscending-scaled b ys h));
  nonzero = HasNoZero-without_zeros (summed_terms (scaled_terms a xs) (scaled_terms b ys));
}

if_some_then : {A B : Type 0} (P : B → Type 0) (g : A → Option B) (b : Bool) (x : A) → IfSome (g x) P → IfSome (option_and_then g (if b then Some x else None)) P
if_some_then P g true x h = h
if_some_then P g false x h = tt

-- a row made of the weighted sum of two forms holds where that sum is at most 0
pub weighted_holds : (v : Valuation) (a : ℤ) (f : Form) (b : ℤ) (g : Form) →
    IfSome (option_and_then row_of (weighted_within a f b g)) (λ row. Holds v row ↔ (((a *ℤ value_at v f) +ℤ (b *ℤ value_at v g)) ≤ℤ pos 0))
weighted_holds v a f b g =
    subst (λ z. IfSome (option_and_then row_of (weighted_within a f b g)) (λ row. Holds v row ↔ (z ≤ℤ pos 0))) (value_at-weighted v a f b g)
    (if_some_then {A = Form} {B = Inequality} (λ row. Holds v row ↔ (value_at v (weighted a f b g) ≤ℤ pos 0)) row_of
    (terms_stay_small a f.terms b g.terms && constants_stay_small a f.constant b g.constant) (weighted a f b g)
    (row_of_holds v (weighted a f b g) (HasNoZero-without_zeros (summed_terms (scaled_terms a f.terms) (scaled_terms b g.terms)))))

if_some_as : {A : Type 0} {P Q : A → Type 0} (o : Option A) → ((x : A) → P x → Q x) → IfSome o P → IfSome o Q
if_some_as None f h = tt
if_some_as (Some x) f h = f x h

moved : (a r k b s l : ℤ) → (((a *ℤ (r +ℤ neg_ℤ k)) +ℤ (b *ℤ (s +ℤ neg_ℤ l))) ≤ℤ pos 0) ↔ (((a *ℤ r) +ℤ (b *ℤ s)) ≤ℤ ((a *ℤ k) +ℤ (b *ℤ l)))
moved a r k b s l =
    let e = mul-add a r (neg_ℤ k) in let f = mul-neg a k in let g = mul-add b s (neg_ℤ l) in let h = mul-neg b l in
    (λ m. omega (arith, ints), λ m. omega (arith, ints))

-- a combination holds exactly where the weighted sum of its two rows does
pub combined_holds : (v : Valuation) (row other : Inequality) (a b : ℕ) →
    IfSome (combined row a other b) (λ new. Holds v new ↔
    (((pos a *ℤ sum_at v row.terms) +ℤ (pos b *ℤ sum_at v other.terms)) ≤ℤ ((pos a *ℤ row.constant) +ℤ (pos b *ℤ other.constant))))
combined_holds v row other a b =
    if_some_as (combined row a other b)
    (λ new h. let m = moved (pos a) (sum_at v row.terms) row.constant (pos b) (sum_at v other.terms) other.constant in
    (λ k. m.0 (h.0 k), λ k. h.1 (m.1 k)))
    (weighted_holds v (pos a) (form_of row) (pos b) (form_of other))

-- it holds wherever both rows hold
pub combined_sound : (v : Valuation) (row other : Inequality) (a b : ℕ) → Holds v row → Holds v other → IfSome (combined row a other b) (Holds v)
combined_sound v row other a b h k =
    if_some_as (combined row a other b)
    (λ new m. m.1 (let e = mul_monotone a (sum_at v row.terms) row.constant h in
    let f = mul_monotone b (sum_at v other.terms) other.constant k in omega (arith, ints)))
    (combined_holds v row other a b)

one_or_other : {P : Type 0} (b : Bool) → (b ≡ true → P) → (b ≡ false → P) → P
one_or_other true f g = f refl
one_or_other false f g = g refl

chosen : {A : Type 0} (b : Bool) (x y : A) → b ≡ true → (if b then x else y) ≡ x
chosen b x y e = ap (λ c. if c then x else y) e

other_chosen : {A : Type 0} (b : Bool) (x y : A) → b ≡ false → (if b then x else y) ≡ y
other_chosen b x y e = ap (λ c. if c then x else y) e

equal_of : (o : Ordering) → is_eq o ≡ true → o ≡ Equal
equal_of Less e = absurd (cc)
equal_of Equal e = refl
equal_of Greater e = absurd (cc)

-- terms that all come after a variable don't mention it
sum_at-changed_after : (v : Valuation) (x : Var) (n : ℤ) (ts : List RowTerm) → Follows x ts → sum_at (changed v x n) ts ≡ sum_at v (without_var x ts)
sum_at-changed_after v x n [] h = refl
sum_at-changed_after v x n (t ∷ ts) h =
    let apart : is_eq (var_cmp x t.var) ≡ false = ap is_eq h.0 in
    let kept : without_var x (t ∷ ts) ≡ t ∷ without_var x ts = other_chosen (is_eq (var_cmp x t.var)) _ _ apart in
    let at : changed v x n t.var ≡ v t.var = other_chosen (is_eq (var_cmp x t.var)) n (v t.var) apart in
    let rest = sum_at-changed_after v x n ts h.1 in
    let first : t.factor *ℤ changed v x n t.var ≡ t.factor *ℤ v t.var = ap (λ z. t.factor *ℤ z) at in
    let whole : sum_at v (without_var x (t ∷ ts)) ≡ (t.factor *ℤ v t.var) +ℤ sum_at v (without_var x ts) = ap (sum_at v) kept in
    omega (arith, ints)

pub sum_at-changed : (v : Valuation) (x : Var) (n : ℤ) (ts : List RowTerm) → IsAscending ts →
    sum_at (changed v x n) ts ≡ sum_at v (without_var x ts) +ℤ (factor_of x ts *ℤ n)
sum_at-changed v x n [] h = let e = zero-*ℤ n in omega (arith, ints)
sum_at-changed v x n (t ∷ ts) h =
    let b : Bool = is_eq (var_cmp x t.var) in
    one_or_other b
    (λ same.
    let here : x ≡ t.var = same_var x t.var (equal_of (var_cmp x t.var) same) in
    let at : changed v x n t.var ≡ n = chosen b n (v t.var) same in
    let first : t.factor *ℤ changed v x n t.var ≡ t.factor *ℤ n = ap (λ z. t.factor *ℤ z) at in
    let factor : factor_of x (t ∷ ts) *ℤ n ≡ t.factor *ℤ n = ap (λ z. z *ℤ n) (chosen b t.factor (factor_of x ts) same) in
    let rest = sum_at-changed_after v x n ts (subst (λ (y : Var). Follows y ts) (sym here) h.0) in
    let whole : sum_at v (without_var x (t ∷ ts)) ≡ sum_at v (without_var x ts) = ap (sum_at v) (chosen b (without_var x ts) (t ∷ without_var x ts) same) in
    omega (arith, ints))
    (λ apart.
    let at : changed v x n t.var ≡ v t.var = other_chosen b n (v t.var) apart in
    let first : t.factor *ℤ changed v x n t.var ≡ t.factor *ℤ v t.var = ap (λ z. t.factor *ℤ z) at in
    let factor : factor_of x (t ∷ ts) *ℤ n ≡ factor_of x ts *ℤ n = ap (λ z. z *ℤ n) (other_chosen b t.factor (factor_of x ts) apart) in
    let rest = sum_at-changed v x n ts h.1 in
    let whole : sum_at v (without_var x (t ∷ ts)) ≡ (t.factor *ℤ v t.var) +ℤ sum_at v (without_var x ts) = ap (sum_at v) (other_chosen b (without_var x ts) (t ∷ without_var x ts) apart) in
    omega (arith, ints))

-- substitution commutes with evaluation
pub substituted_holds : (v : Valuation) (row : Inequality) (x : Var) (form : Form) → IsAscending row.terms →
    IfSome (substituted row x form) (λ new. Holds v new ↔ Holds (changed v x (value_at v form)) row)
substituted_holds v row x form h =
    if_some_as (substituted row x form)
    (λ new m.
    let n : ℤ = value_at v form in
    let e = sum_at-changed v x n row.terms h in
    let s : ℤ = sum_at v (without_var x row.terms) in
    let one : pos 1 *ℤ (s +ℤ neg_ℤ row.constant) ≡ s +ℤ neg_ℤ row.constant = one_times (s +ℤ neg_ℤ row.constant) in
    (λ k. let p = m.0 k in omega (arith, ints), λ k. m.1 (omega (arith, ints))))
    (weighted_holds v (pos 1) (form_of (record { terms = without_var x row.terms; constant = row.constant })) (factor_of x row.terms) form)
  where
    one_times : (z : ℤ) → pos 1 *ℤ z ≡ z
    one_times (pos n) = ap pos (one-mul n)
    one_times (negsuc n) = ap (λ m. neg_ℤ (pos m)) (one-mul (suc n))

some_under : {A P Q : Type 0} (R : A → Type 0) (o : Option A) → (P → Q → IfSome o R) → IfSome o (λ x. P → Q → R x)
some_under R None h = tt
some_under R (Some x) h = h

pub sound_at : (v : Valuation) (row other : Inequality) (a b : ℕ) → IfSome (combined row a other b) (λ new. Holds v row → Holds v other → Holds v new)
sound_at v row other a b = some_under (Holds v) (combined row a other b) (λ h k. combined_sound v row other a b h k)
