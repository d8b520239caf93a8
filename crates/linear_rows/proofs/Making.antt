-- A row that is made of its parts, and what each call that makes a row owes.
use Rattle.std.proofs.Common.{◌≡◌, refl, sym, ap, ◌∙◌, subst, ℕ, ◌<◌, ℤ, pos, neg_ℤ, List, Bool, true, false, Option, Some, None, Result}
use Rattle.std.specs.Prelude.{if◌then◌else◌, ◌&&◌, IfSome, IfOk, option_and_then}
use Rattle.std.proofs.lemmas.Result.{IfOk-weaker}
use Rattle.linear_rows.specs.declared.rows.RowTerm.{RowTerm}
use Rattle.linear_rows.specs.declared.forms.Form.{Form}
use Rattle.linear_rows.specs.Rows.{Inequality, Valuation}
use Rattle.linear_rows.specs.Terms.{IsCollected, factor_of, without_var}
use Rattle.linear_rows.specs.declared.rows.Var.{Var}
use Rattle.linear_rows.specs.Combinations.{combined, substituted, IsRowOf}
use Rattle.linear_rows.specs.Forms.{terms_stay_small, constants_stay_small, weighted_terms, weighted_constant, weighted_terms_within, weighted_constant_within, weighted_within}
use Rattle.linear_rows.specs.NormalForm.{divisor_of, divided, floor, is_within, all_within, number_within, terms_within, lowest, row_fits, row_of, IsRow}
use Rattle.linear_rows.proofs.Normal.{if_some, holds_divided, lowest_is_row}
use Rattle.linear_rows.proofs.Divisors.{divisor_of-positive}

pub some_if : {A : Type 0} (b : Bool) (x y : A) → Some y ≡ (if b then Some x else None) → (b ≡ true) × (x ≡ y)
some_if true x y e = (refl, cc)
some_if false x y e = absurd (cc)

both_hold : (a b : Bool) → a ≡ true → b ≡ true → (a && b) ≡ true
both_hold true true e f = refl
both_hold true false e f = absurd (cc)
both_hold false b e f = absurd (cc)

pub divisor_positive : (ts : List RowTerm) (d : ℕ) → IsCollected ts → d ≡ divisor_of ts → 0 < d
divisor_positive ts d h e = subst (λ n. 0 < n) (sym e) (divisor_of-positive ts h.nonzero)

-- the parts that the calls give are those of a row
pub row_of_parts : (ts : List RowTerm) (k : ℤ) (d : ℕ) (terms : List RowTerm) (constant : ℤ) → IsCollected ts → d ≡ divisor_of ts →
    Some constant ≡ number_within (floor (neg_ℤ k) d) → Some terms ≡ terms_within (divided d ts) → IsRow terms constant
row_of_parts ts k d terms constant h e p q =
    let f : Form = record { terms = ts; constant = k } in
    let p' : Some constant ≡ number_within (floor (neg_ℤ k) (divisor_of ts)) = subst (λ n. Some constant ≡ number_within (floor (neg_ℤ k) n)) e p in
    let q' : Some terms ≡ terms_within (divided (divisor_of ts) ts) = subst (λ n. Some terms ≡ terms_within (divided n ts)) e q in
    let one = some_if {A = ℤ} (is_within (lowest f).constant) (lowest f).constant constant p' in
    let other = some_if {A = List RowTerm} (all_within (lowest f).terms) (lowest f).terms terms q' in
    let row : IsRow (lowest f).terms (lowest f).constant = lowest_is_row f h (both_hold (all_within (lowest f).terms) (is_within (lowest f).constant) other.0 one.0) in
    subst (λ (z : ℤ). IsRow terms z) one.1 (subst (λ (x : List RowTerm). IsRow x (lowest f).constant) other.1 row)

pub made_holds : {E : Type 0} (f : Form) (r : Result (Option Inequality) E) → IsCollected f.terms → IfOk r (λ row. row ≡ row_of f) → IfOk r (λ row. IfSome row (IsRowOf f))
made_holds {E} f r h k =
    IfOk-weaker r (λ row. row ≡ row_of f) (λ row. IfSome row (IsRowOf f))
    (λ row e. subst (λ (o : Option Inequality). IfSome o (IsRowOf f)) (sym e)
    (if_some {A = Inequality} (IsRowOf f) (row_fits (lowest f)) (lowest f) (λ fits v. holds_divided v f h.nonzero))) k

-- the parts of a weighted sum of two forms give its row
pub weighted_row : {E : Type 0} (a m b n : ℤ) (xs ys : List RowTerm) (constant : ℤ) (terms : List RowTerm) (r : Result (Option Inequality) E) →
    Some constant ≡ weighted_constant_within a m b n → Some terms ≡ weighted_terms_within a xs b ys →
    IfOk r (λ row. row ≡ row_of (record { terms = terms; constant = constant })) →
    IfOk r (λ row. row ≡ option_and_then row_of (weighted_within a (record { terms = xs; constant = m }) b (record { terms = ys; constant = n })))
weighted_row {E} a m b n xs ys constant terms r e f h =
    let one = some_if {A = ℤ} (constants_stay_small a m b n) (weighted_constant a m b n) constant e in
    let other = some_if {A = List RowTerm} (terms_stay_small a xs b ys) (weighted_terms a xs b ys) terms f in
    let made : Form = record { terms = terms; constant = constant } in
    let whole : Form = record { terms = weighted_terms a xs b ys; constant = weighted_constant a m b n } in
    let same : whole ≡ made = λ i. record { terms = other.1 i; constant = one.1 i } in
    let small : weighted_within a (record { terms = xs; constant = m }) b (record { terms = ys; constant = n }) ≡ Some whole =
    ap (λ (c : Bool). if c then Some whole else None) (both_hold (terms_stay_small a xs b ys) (constants_stay_small a m b n) other.0 one.0) in
    let row : option_and_then row_of (weighted_within a (record { terms = xs; constant = m }) b (record { terms = ys; constant = n })) ≡ row_of made =
    ap (option_and_then row_of) small ∙ ap row_of same in
    IfOk-weaker r (λ (new : Option Inequality). new ≡ row_of made)
    (λ (new : Option Inequality). new ≡ option_and_then row_of (weighted_within a (record { terms = xs; constant = m }) b (record { terms = ys; constant = n })))
    (λ new k. k ∙ sym row) h

-- what the call on the parts of two rows gives is their combination
pub combined_row : {E : Type 0} (row other : Inequality) (mine theirs : ℕ) (a m b n : ℤ) (xs ys : List RowTerm) (r : Result (Option Inequality) E) →
    a ≡ pos mine → b ≡ pos theirs → xs ≡ row.terms → ys ≡ other.terms → m ≡ neg_ℤ row.constant → n ≡ neg_ℤ other.constant →
    IfOk r (λ new. new ≡ option_and_then row_of (weighted_within a (record { terms = xs; constant = m }) b (record { terms = ys; constant = n }))) →
    IfOk r (λ new. new ≡ combined row mine other theirs)
combined_row {E} row other mine theirs a m b n xs ys r ea eb ex ey em en h =
    let same : option_and_then row_of (weighted_within a (record { terms = xs; constant = m }) b (record { terms = ys; constant = n })) ≡ combined row mine other theirs =
    λ i. option_and_then row_of (weighted_within (ea i) (record { terms = ex i; constant = em i }) (eb i) (record { terms = ey i; constant = en i })) in
    IfOk-weaker r (λ (new : Option Inequality). new ≡ option_and_then row_of (weighted_within a (record { terms = xs; constant = m }) b (record { terms = ys; constant = n })))
    (λ (new : Option Inequality). new ≡ combined row mine other theirs) (λ new k. k ∙ same) h

pub substituted_row : {E : Type 0} (row : Inequality) (var : Var) (form : Form) (a m b n : ℤ) (xs ys : List RowTerm) (r : Result (Option Inequality) E) →
    a ≡ pos 1 → b ≡ factor_of var row.terms → xs ≡ without_var var row.terms → ys ≡ form.terms → m ≡ neg_ℤ row.constant → n ≡ form.constant →
    IfOk r (λ new. new ≡ option_and_then row_of (weighted_within a (record { terms = xs; constant = m }) b (record { terms = ys; constant = n }))) →
    IfOk r (λ new. new ≡ substituted row var form)
substituted_row {E} row var form a m b n xs ys r ea eb ex ey em en h =
    let same : option_and_then row_of (weighted_within a (record { terms = xs; constant = m }) b (record { terms = ys; constant = n })) ≡ substituted row var form =
    λ i. option_and_then row_of (weighted_within (ea i) (record { terms = ex i; constant = em i }) (eb i) (record { terms = ey i; constant = en i })) in
    IfOk-weaker r (λ (new : Option Inequality). new ≡ option_and_then row_of (weighted_within a (record { terms = xs; constant = m }) b (record { terms = ys; constant = n })))
    (λ (new : Option Inequality). new ≡ substituted row var form) (λ new k. k ∙ same) h

-- what is true of the defined row is true of the row that a call gives
pub given : {E : Type 0} (P : Inequality → Type 0) (o : Option Inequality) (r : Result (Option Inequality) E) → IfSome o P → IfOk r (λ new. new ≡ o) → IfOk r (λ new. IfSome new P)
given {E} P o r h k =
    IfOk-weaker r (λ (new : Option Inequality). new ≡ o) (λ (new : Option Inequality). IfSome new P)
    (λ new e. subst (λ (n : Option Inequality). IfSome n P) (sym e) h) k

-- what holds at each valuation
pub all_valuations : (P : Valuation → Inequality → Type 0) (o : Option Inequality) → ((v : Valuation) → IfSome o (P v)) → IfSome o (λ row. (v : Valuation) → P v row)
all_valuations P None h = tt
all_valuations P (Some row) h = h
