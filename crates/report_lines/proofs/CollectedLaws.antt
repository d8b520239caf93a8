-- Terms are collected just where the test of them says so, and the row of collected terms is theirs.
use Rattle.std.proofs.Common.{IfOk, Result, ◌-◌, ◌≤◌, negsuc, neg_ℤ, int_le, int_lt, ℕ, ℤ, pos, zero, suc, ◌+◌, ◌^◌, ◌<◌, ◌≡◌, ◌≢◌, ◌&&◌, ◌||◌, ◌==◌, not, Bool, true, false, List, [], ◌∷◌, ◌++◌, Option, Some, None, refl, sym, ap, ◌∙◌, subst, append_assoc, append-nil, length, map, nat_lt, nat_le, unsigned_abs, codes, if◌then◌else◌, option_map, option_and_then, arith}
use Rattle.std.proofs.lemmas.Bool.Decides.{nat_tests}
use Rattle.std.proofs.lemmas.Bool.{eqb-true}
use Rattle.std.proofs.lemmas.Bool.Decides.{Decides-int_eq}
use Rattle.std.specs.Fmt.{decimal, signed_decimal}
use Rattle.std.specs.Int.{IsInRange}
use Rattle.std.specs.Ordering.{match_ordering, int_eq}
use Rattle.std.specs.declared.cmp.Ordering.{Ordering}
use Rattle.std.specs.declared.cmp.Ordering.TheVariants.{Less, Equal, Greater}
use Rattle.std.specs.Str.Parse.{AllDigits}
use Rattle.std.proofs.lemmas.Str.Parse.{digit_from_value}
use Rattle.std.proofs.lemmas.Fmt.{decimal_is_IsNumeral_wide}
use Rattle.wsym_terms.specs.declared.bounds.ParamRange.{ParamRange}
use Rattle.wsym_terms.specs.declared.bounds.Coef.{Coef}
use Rattle.linear_rows.specs.declared.rows.Var.{Var}
use Rattle.linear_rows.specs.declared.rows.Var.TheVariants as var
use Rattle.linear_rows.specs.declared.rows.RowTerm.{RowTerm}
use Rattle.linear_rows.specs.Variables.{var_cmp}
use Rattle.linear_rows.specs.Terms.{IsCollected, ComesBefore}
use Rattle.linear_rows.specs.Rows.{Inequality}
use Rattle.linear_rows.specs.Forms.{form_of}
use Rattle.linear_rows.specs.NormalForm.{all_within, divisor_of, is_within, row_of, IsRow}
use Rattle.linear_rows.proofs.TermLists.{IsCollected-cons, IsCollected-rest}
use Rattle.linear_rows.proofs.Normal.{row_of_row}
use Rattle.report_elements.specs.Elements.{coef_text, name_at, row_term_text, var_text}
use Rattle.report_elements.specs.Numbers.{number_below}
use Rattle.report_elements.proofs.DigitLaws.{number_decimal}
use Rattle.report_elements.specs.Names.{ascii_on}
use Rattle.report_elements.specs.Signed.{minus}
use Rattle.report_elements.proofs.SignedLaws.{signed_read}
use Rattle.report_elements.specs.Words.{byte_off}
use Rattle.report_lines.specs.declared.report.Fact.{Fact}
use Rattle.report_lines.specs.declared.report.Line.TheVariants as line
use Rattle.report_lines.specs.Reading.{coef_of, coef_with, collected, comes_first, fact_from, narrow_of, place_of, row_from, row_line_from, row_with, signed_word, term_of, term_with, var_of}
use Rattle.report_lines.specs.declared.report.ReportRow.{ReportRow}
use Rattle.report_lines.specs.declared.report.ReportLoop.{ReportLoop}
use Rattle.wsym_terms.specs.declared.bounds.Atom.{Atom}

both : (a b : Bool) → (a && b) ≡ true → (a ≡ true) × (b ≡ true)
both true true e = (refl, refl)
both true false e = absurd (cc)
both false b e = absurd (cc)

split3 : (a b c : Bool) → (a && b && c) ≡ true → (a ≡ true) × (b ≡ true) × (c ≡ true)
split3 a b c e = let p = both (a && b) c e in let q = both a b p.0 in (q.0, q.1, p.1)

first_is : (t : RowTerm) (ts : List RowTerm) → comes_first t ts ≡ true → ComesBefore t ts
first_is t [] e = tt
first_is t (u ∷ us) e = by_answer (var_cmp t.var u.var) e
  where
    by_answer : (o : Ordering) → match_ordering o true false false ≡ true → o ≡ Less
    by_answer Less e = refl
    by_answer Equal e = absurd (cc)
    by_answer Greater e = absurd (cc)

not_zero : (z : ℤ) → not (int_eq z (pos 0)) ≡ true → z ≢ pos 0
not_zero z e is = absurd (self (subst (λ (y : ℤ). not (int_eq y (pos 0)) ≡ true) is e))
  where
    self : not (int_eq (pos 0) (pos 0)) ≡ true → ⊥
    self e = absurd (cc)

pub collected_is : (ts : List RowTerm) → collected ts ≡ true → IsCollected ts
collected_is [] e = record { ascending = tt; nonzero = tt }
collected_is (t ∷ ts) e =
    let p = split3 (not (int_eq t.factor (pos 0))) (comes_first t ts) (collected ts) e in
    IsCollected-cons t ts (not_zero t.factor p.0) (first_is t ts p.1) (collected_is ts p.2)

by_zero : (z : ℤ) (b : Bool) → int_eq z (pos 0) ≡ b → z ≢ pos 0 → not (int_eq z (pos 0)) ≡ true
by_zero z true is other = absurd (other ((Decides-int_eq z (pos 0)).0 is))
by_zero z false is other = ap not is

pub collected_true : (ts : List RowTerm) → IsCollected ts → collected ts ≡ true
collected_true [] c = refl
collected_true (t ∷ ts) c =
    let r = IsCollected-rest t ts c in
    (λ i. apart t.factor r.0 i && firsts t ts r.1 i && collected_true ts r.2 i)
  where
    apart : (z : ℤ) → z ≢ pos 0 → not (int_eq z (pos 0)) ≡ true
    apart z other = by_zero z (int_eq z (pos 0)) refl other

    firsts : (t : RowTerm) (ts : List RowTerm) → ComesBefore t ts → comes_first t ts ≡ true
    firsts t [] e = refl
    firsts t (u ∷ us) e = ap (λ (o : Ordering). match_ordering o true false false) e

pub made_row : {E : Type 0} (constant : ℤ) (ts : List RowTerm) (r : Result (Option Inequality) E) → IsCollected ts → IfOk r (λ o. o ≡ row_of (record { terms = ts; constant = neg_ℤ constant })) → IfOk r (λ o. o ≡ row_with constant ts)
made_row constant ts r c h = subst (λ (b : Bool). IfOk r (λ o. o ≡ (if b then row_of (record { terms = ts; constant = neg_ℤ constant }) else None))) (sym (collected_true ts c)) h

pub made_none : (constant : ℤ) (ts : List RowTerm) → (IsCollected ts → ⊥) → ◌≡◌ {A = Option Inequality} None (row_with constant ts)
made_none constant ts bad = by_test (collected ts) refl
  where
    by_test : (b : Bool) → collected ts ≡ b → ◌≡◌ {A = Option Inequality} None (if collected ts then row_of (record { terms = ts; constant = neg_ℤ constant }) else None)
    by_test true is = absurd (bad (collected_is ts is))
    by_test false is = ap (λ (b : Bool). if b then row_of (record { terms = ts; constant = neg_ℤ constant }) else None) (sym is)
