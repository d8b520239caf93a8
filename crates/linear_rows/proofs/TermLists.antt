-- Lists of terms keep their order.
use Rattle.std.proofs.Common.{◌≡◌, ◌≢◌, refl, sym, ap, ◌∙◌, subst, ℤ, pos, ◌+ℤ◌, List, [], ◌∷◌, Bool, true, false}
use Rattle.std.specs.Prelude.{if◌then◌else◌, ◌↔◌}
use Rattle.std.specs.declared.cmp.Ordering.{Ordering}
use Rattle.std.specs.declared.cmp.Ordering.TheVariants.{Less, Equal, Greater}
use Rattle.std.specs.Ordering.{match_ordering, is_eq}
use Rattle.std.specs.Cmp.{signed_Decides}
use Rattle.linear_rows.specs.declared.rows.Var.{Var}
use Rattle.linear_rows.specs.declared.rows.RowTerm.{RowTerm}
use Rattle.linear_rows.specs.Variables.{var_cmp}
use Rattle.linear_rows.specs.Terms.{ComesBefore, IsCollected, Follows, IsAscending, HasNoZero, scaled_terms, with_term, summed_terms, is_zero, without_zeros, without_var}
use Rattle.linear_rows.proofs.VariableOrder.{same_var, less_trans, greater_less, less_greater}

-- the sum of two terms of one variable
abbrev pub both : RowTerm → RowTerm → RowTerm
both x t = record { var = t.var; factor = x.factor +ℤ t.factor }

pub with_less : (x t : RowTerm) (ts : List RowTerm) → var_cmp x.var t.var ≡ Less → with_term x (t ∷ ts) ≡ x ∷ t ∷ ts
with_less x t ts e = ap (λ o. match_ordering o (x ∷ t ∷ ts) (both x t ∷ ts) (t ∷ with_term x ts)) e

pub with_equal : (x t : RowTerm) (ts : List RowTerm) → var_cmp x.var t.var ≡ Equal → with_term x (t ∷ ts) ≡ both x t ∷ ts
with_equal x t ts e = ap (λ o. match_ordering o (x ∷ t ∷ ts) (both x t ∷ ts) (t ∷ with_term x ts)) e

pub with_greater : (x t : RowTerm) (ts : List RowTerm) → var_cmp x.var t.var ≡ Greater → with_term x (t ∷ ts) ≡ t ∷ with_term x ts
with_greater x t ts e = ap (λ o. match_ordering o (x ∷ t ∷ ts) (both x t ∷ ts) (t ∷ with_term x ts)) e

-- what follows a variable follows each before it
pub follows_before : (a b : Var) (ts : List RowTerm) → var_cmp a b ≡ Less → Follows b ts → Follows a ts
follows_before a b [] e h = tt
follows_before a b (t ∷ ts) e h = (less_trans a b t.var e h.0, follows_before a b ts e h.1)

pub by_order : {P : Type 0} (a b : Var) → (var_cmp a b ≡ Less → P) → (var_cmp a b ≡ Equal → P) → (var_cmp a b ≡ Greater → P) → P
by_order {P} a b less equal greater = cases (var_cmp a b) refl
  where
    cases : (o : Ordering) → var_cmp a b ≡ o → P
    cases Less e = less e
    cases Equal e = equal e
    cases Greater e = greater e

pub Follows-scaled : (v : Var) (a : ℤ) (ts : List RowTerm) → Follows v ts → Follows v (scaled_terms a ts)
Follows-scaled v a [] h = tt
Follows-scaled v a (t ∷ ts) h = (h.0, Follows-scaled v a ts h.1)

pub IsAscending-scaled : (a : ℤ) (ts : List RowTerm) → IsAscending ts → IsAscending (scaled_terms a ts)
IsAscending-scaled a [] h = tt
IsAscending-scaled a (t ∷ ts) h = (Follows-scaled t.var a ts h.0, IsAscending-scaled a ts h.1)

pub Follows-with_term : (v : Var) (x : RowTerm) (ts : List RowTerm) → var_cmp v x.var ≡ Less → Follows v ts → Follows v (with_term x ts)
Follows-with_term v x [] e h = (e, tt)
Follows-with_term v x (t ∷ ts) e h =
    by_order x.var t.var
    (λ less. subst (Follows v) (sym (with_less x t ts less)) (e, h))
    (λ equal. subst (Follows v) (sym (with_equal x t ts equal)) h)
    (λ greater. subst (Follows v) (sym (with_greater x t ts greater)) (h.0, Follows-with_term v x ts e h.1))

pub IsAscending-with_term : (x : RowTerm) (ts : List RowTerm) → IsAscending ts → IsAscending (with_term x ts)
IsAscending-with_term x [] h = (tt, tt)
IsAscending-with_term x (t ∷ ts) h =
    by_order x.var t.var
    (λ less. subst IsAscending (sym (with_less x t ts less)) ((less, follows_before x.var t.var ts less h.0), h))
    (λ equal. subst IsAscending (sym (with_equal x t ts equal)) h)
    (λ greater. subst IsAscending (sym (with_greater x t ts greater))
    (Follows-with_term t.var x ts (greater_less x.var t.var greater) h.0, IsAscending-with_term x ts h.1))

pub Follows-summed : (v : Var) (xs ys : List RowTerm) → Follows v xs → Follows v ys → Follows v (summed_terms xs ys)
Follows-summed v [] ys h k = k
Follows-summed v (x ∷ xs) ys h k = Follows-with_term v x (summed_terms xs ys) h.0 (Follows-summed v xs ys h.1 k)

pub IsAscending-summed : (xs ys : List RowTerm) → IsAscending ys → IsAscending (summed_terms xs ys)
IsAscending-summed [] ys k = k
IsAscending-summed (x ∷ xs) ys k = IsAscending-with_term x (summed_terms xs ys) (IsAscending-summed xs ys k)

-- a term before all others goes in front
pub with_first : (x : RowTerm) (ts : List RowTerm) → Follows x.var ts → with_term x ts ≡ x ∷ ts
with_first x [] h = refl
with_first x (t ∷ ts) h = with_less x t ts h.0

-- the three cases of a sum of two lists that ascend: the lesser of the first two comes first
pub summed_less : (x : RowTerm) (xs ys : List RowTerm) → Follows x.var xs → Follows x.var ys → summed_terms (x ∷ xs) ys ≡ x ∷ summed_terms xs ys
summed_less x xs ys h k = with_first x (summed_terms xs ys) (Follows-summed x.var xs ys h k)

pub summed_greater : (y : RowTerm) (xs ys : List RowTerm) → Follows y.var xs → summed_terms xs (y ∷ ys) ≡ y ∷ summed_terms xs ys
summed_greater y [] ys h = refl
summed_greater y (x ∷ xs) ys h =
    ap (with_term x) (summed_greater y xs ys h.1) ∙ with_greater x y (summed_terms xs ys) (less_greater x.var y.var h.0)

pub summed_equal : (x y : RowTerm) (xs ys : List RowTerm) → var_cmp x.var y.var ≡ Equal → Follows x.var xs → summed_terms (x ∷ xs) (y ∷ ys) ≡ both x y ∷ summed_terms xs ys
summed_equal x y xs ys e h =
    ap (with_term x) (summed_greater y xs ys (subst (λ v. Follows v xs) (same_var x.var y.var e) h)) ∙ with_equal x y (summed_terms xs ys) e

pub summed_none : (xs : List RowTerm) → IsAscending xs → summed_terms xs [] ≡ xs
summed_none [] h = refl
summed_none (x ∷ xs) h = ap (with_term x) (summed_none xs h.1) ∙ with_first x xs h.0

pub zero_or_not : {P : Type 0} (z : ℤ) → (is_zero z ≡ true → P) → (is_zero z ≡ false → P) → P
zero_or_not {P} z at_zero otherwise = cases (is_zero z) refl
  where
    cases : (b : Bool) → is_zero z ≡ b → P
    cases true e = at_zero e
    cases false e = otherwise e

pub without_zeros_left : (t : RowTerm) (ts : List RowTerm) → is_zero t.factor ≡ true → without_zeros (t ∷ ts) ≡ without_zeros ts
without_zeros_left t ts e = ap (λ b. if b then without_zeros ts else t ∷ without_zeros ts) e

pub without_zeros_kept : (t : RowTerm) (ts : List RowTerm) → is_zero t.factor ≡ false → without_zeros (t ∷ ts) ≡ t ∷ without_zeros ts
without_zeros_kept t ts e = ap (λ b. if b then without_zeros ts else t ∷ without_zeros ts) e

pub Follows-without_zeros : (v : Var) (ts : List RowTerm) → Follows v ts → Follows v (without_zeros ts)
Follows-without_zeros v [] h = tt
Follows-without_zeros v (t ∷ ts) h =
    zero_or_not t.factor
    (λ e. subst (Follows v) (sym (without_zeros_left t ts e)) (Follows-without_zeros v ts h.1))
    (λ e. subst (Follows v) (sym (without_zeros_kept t ts e)) (h.0, Follows-without_zeros v ts h.1))

pub IsAscending-without_zeros : (ts : List RowTerm) → IsAscending ts → IsAscending (without_zeros ts)
IsAscending-without_zeros [] h = tt
IsAscending-without_zeros (t ∷ ts) h =
    zero_or_not t.factor
    (λ e. subst IsAscending (sym (without_zeros_left t ts e)) (IsAscending-without_zeros ts h.1))
    (λ e. subst IsAscending (sym (without_zeros_kept t ts e)) (Follows-without_zeros t.var ts h.0, IsAscending-without_zeros ts h.1))

pub is_zero_of : (z : ℤ) → is_zero z ≡ true → z ≡ pos 0
is_zero_of z e = (signed_Decides z (pos 0)).0 e

pub not_zero_of : (z : ℤ) → is_zero z ≡ false → z ≢ pos 0
not_zero_of z e h = let k : is_zero z ≡ true = ap is_zero h in cc

pub HasNoZero-without_zeros : (ts : List RowTerm) → HasNoZero (without_zeros ts)
HasNoZero-without_zeros [] = tt
HasNoZero-without_zeros (t ∷ ts) =
    zero_or_not t.factor
    (λ e. subst HasNoZero (sym (without_zeros_left t ts e)) (HasNoZero-without_zeros ts))
    (λ e. subst HasNoZero (sym (without_zeros_kept t ts e)) (not_zero_of t.factor e, HasNoZero-without_zeros ts))

pub Follows-without_var : (v x : Var) (ts : List RowTerm) → Follows v ts → Follows v (without_var x ts)
Follows-without_var v x [] h = tt
Follows-without_var v x (t ∷ ts) h = either_way (is_eq (var_cmp x t.var)) (Follows-without_var v x ts h.1)
  where
    either_way : (b : Bool) → Follows v (without_var x ts) → Follows v (if b then without_var x ts else t ∷ without_var x ts)
    either_way true k = k
    either_way false k = (h.0, k)

pub IsAscending-without_var : (x : Var) (ts : List RowTerm) → IsAscending ts → IsAscending (without_var x ts)
IsAscending-without_var x [] h = tt
IsAscending-without_var x (t ∷ ts) h = either_way (is_eq (var_cmp x t.var)) (IsAscending-without_var x ts h.1)
  where
    either_way : (b : Bool) → IsAscending (without_var x ts) → IsAscending (if b then without_var x ts else t ∷ without_var x ts)
    either_way true k = k
    either_way false k = (Follows-without_var t.var x ts h.0, k)

follows_first : (t : RowTerm) (ts : List RowTerm) → ComesBefore t ts → IsAscending ts → Follows t.var ts
follows_first t [] h k = tt
follows_first t (u ∷ us) h k = (h, follows_before t.var u.var us h k.0)

comes_first : (t : RowTerm) (ts : List RowTerm) → Follows t.var ts → ComesBefore t ts
comes_first t [] h = tt
comes_first t (u ∷ us) h = h.0

-- like terms are collected where the first term is right and the rest are collected
pub IsCollected-cons : (t : RowTerm) (ts : List RowTerm) → t.factor ≢ pos 0 → ComesBefore t ts → IsCollected ts → IsCollected (t ∷ ts)
IsCollected-cons t ts n h k = record {
  ascending = (follows_first t ts h k.ascending, k.ascending);
  nonzero = (n, k.nonzero);
}

pub IsCollected-rest : (t : RowTerm) (ts : List RowTerm) → IsCollected (t ∷ ts) → (t.factor ≢ pos 0) × ComesBefore t ts × IsCollected ts
IsCollected-rest t ts h =
    (h.nonzero.0, comes_first t ts h.ascending.0, record { ascending = h.ascending.1; nonzero = h.nonzero.1 })

-- what the rest of a list says of a whole, the list says of it
pub rest_collected : {P : Type 0} (t : RowTerm) (ts xs : List RowTerm) → xs ≡ t ∷ ts → t.factor ≢ pos 0 → ComesBefore t ts →
    (IsCollected xs ↔ P) → (IsCollected ts ↔ P)
rest_collected t ts xs e n h k = (
  λ m. k.0 (subst (λ (us : List RowTerm). IsCollected us) (sym e) (IsCollected-cons t ts n h m)),
  λ p. (IsCollected-rest t ts (subst (λ (us : List RowTerm). IsCollected us) e (k.1 p))).2,
)
