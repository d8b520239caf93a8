-- Names, variables, terms, rows and facts are read as themselves.
use Rattle.std.proofs.Common.{◌-◌, ◌≤◌, negsuc, neg_ℤ, int_le, int_lt, ℕ, ℤ, pos, zero, suc, ◌+◌, ◌^◌, ◌<◌, ◌≡◌, ◌≢◌, ◌&&◌, ◌||◌, ◌==◌, Bool, true, false, List, [], ◌∷◌, ◌++◌, Option, Some, None, refl, sym, ap, ◌∙◌, append_assoc, append-nil, length, map, nat_lt, nat_le, unsigned_abs, codes, if◌then◌else◌, option_map, option_and_then, arith}
use Rattle.std.proofs.lemmas.Bool.Decides.{nat_tests}
use Rattle.std.proofs.lemmas.Bool.{eqb-true}
use Rattle.std.specs.Fmt.{decimal, signed_decimal}
use Rattle.std.specs.Int.{IsInRange}
use Rattle.std.specs.Str.Parse.{AllDigits}
use Rattle.std.proofs.lemmas.Str.Parse.{digit_from_value}
use Rattle.std.proofs.lemmas.Fmt.{decimal_is_IsNumeral_wide}
use Rattle.wsym_terms.specs.declared.bounds.ParamRange.{ParamRange}
use Rattle.wsym_terms.specs.declared.bounds.Coef.{Coef}
use Rattle.linear_rows.specs.declared.rows.Var.{Var}
use Rattle.linear_rows.specs.declared.rows.Var.TheVariants as var
use Rattle.linear_rows.specs.declared.rows.RowTerm.{RowTerm}
use Rattle.linear_rows.specs.Rows.{Inequality}
use Rattle.linear_rows.specs.Forms.{form_of}
use Rattle.linear_rows.specs.NormalForm.{all_within, divisor_of, is_within, row_of, IsRow}
use Rattle.linear_rows.proofs.Normal.{row_of_row}
use Rattle.report_elements.specs.Elements.{coef_text, name_at, row_term_text, var_text}
use Rattle.report_elements.specs.Numbers.{number_below}
use Rattle.report_elements.proofs.DigitLaws.{number_decimal}
use Rattle.report_elements.specs.Names.{ascii_on}
use Rattle.report_elements.specs.Signed.{minus}
use Rattle.report_elements.proofs.SignedLaws.{signed_read}
use Rattle.report_lines.proofs.CollectedLaws.{collected_is}
use Rattle.report_elements.specs.Words.{byte_off}
use Rattle.report_lines.specs.declared.report.Fact.{Fact}
use Rattle.report_rules.specs.declared.forms.Form.{Form}
use Rattle.report_lines.specs.declared.report.Line.TheVariants as line
use Rattle.report_lines.specs.Reading.{coef_of, coef_with, collected, fact_from, narrow_of, place_of, row_from, row_line_from, row_with, signed_word, term_of, term_with, var_of}
use Rattle.report_rules.specs.Following.{is_narrow, coefs_from, fact_ok, is_letter, is_name, is_row, is_tail, names_itself, param_exists, point_exists, row_ok, u32_ok, var_exists, vars_exist, word_exists}
use Rattle.report_lines.specs.declared.report.ReportRow.{ReportRow}
use Rattle.whole_reports.proofs.StepLaws.{both}
use Rattle.whole_reports.proofs.WordLaws.{AllPlain, EachReads, Plain, all_read, before_mark, bracket_mark, from_mark, plain_both, plain_decimal, plain_fixed, plain_signed, signed_mark, words_read}
use Rattle.whole_reports.proofs.KindLaws.{Reads, le_is, lt_is, points_small, small_back, small_plain, split3, split4, split5, split6, three_read}

-- signed numbers
wide_back : (z : ℤ) → is_within z ≡ true → signed_word (signed_decimal z) ≡ Some z
wide_back z e = signed_read (2 ^ 126) z (omega (arith, le_is (unsigned_abs z) (2 ^ 90) e)) (omega arith)

wide_small : (z : ℤ) → is_within z ≡ true → unsigned_abs z < 2 ^ 127
wide_small z e = omega (arith, le_is (unsigned_abs z) (2 ^ 90) e)

first_digit : (c : ℕ) (cs : List ℕ) → IsInRange 48 57 c → narrow_of (c ∷ cs) ≡ option_map pos (number_below (2 ^ 31) 0 (c ∷ cs))
first_digit c cs range = grind (arith, nat_tests)

narrow_digits : (ds : List ℕ) → AllDigits 10 ds → 0 < length ds → narrow_of ds ≡ option_map pos (number_below (2 ^ 31) 0 ds)
narrow_digits [] d some = absurd (omega arith)
narrow_digits (c ∷ cs) d some = first_digit c cs (digit_from_value c d.0)

-- from -2^31 to 2^31 - 1
abbrev pub Narrow : ℤ → Type 0
Narrow (pos n) = n < 2 ^ 31
Narrow (negsuc n) = suc n ≤ 2 ^ 31

pub narrow_back : (z : ℤ) → Narrow z → narrow_of (signed_decimal z) ≡ Some z
narrow_back (pos n) small =
    let is = decimal_is_IsNumeral_wide n (omega arith) in
    narrow_digits (decimal n) is.0.1 is.0.0 ∙ ap (option_map pos) (number_decimal (2 ^ 31) n small (omega arith))
narrow_back (negsuc n) small = ap (option_map minus) (number_decimal (2 ^ 31 + 1) (suc n) (omega (arith, small)) (omega arith))

pub narrow_wide : (z : ℤ) → Narrow z → unsigned_abs z < 2 ^ 127
narrow_wide (pos n) small = omega (arith, small)
narrow_wide (negsuc n) small = omega (arith, small)

pub narrow_is : (z : ℤ) → is_narrow z ≡ true → Narrow z
narrow_is (pos n) e = let p = both (int_le (neg_ℤ (pos (2 ^ 31))) (pos n)) (int_lt (pos n) (pos (2 ^ 31))) e in lt_is n (2 ^ 31) p.1
narrow_is (negsuc n) e = let p = both (int_le (neg_ℤ (pos (2 ^ 31))) (negsuc n)) (int_lt (negsuc n) (pos (2 ^ 31))) e in let le = le_is n (2 ^ 31 - 1) p.0 in omega (arith, le)

small_narrow : (z : ℤ) → unsigned_abs z < 2 ^ 31 → Narrow z
small_narrow (pos n) small = small
small_narrow (negsuc n) small = omega (arith, small)

-- names
letter_range : (b : ℕ) → is_letter b ≡ true → (64 < b) × (b < 123) × (b ≢ 91)
letter_range b e = by_cases (nat_lt 64 b && nat_lt b 91) (nat_lt 96 b && nat_lt b 123) refl refl e
  where
    by_cases : (x y : Bool) → (nat_lt 64 b && nat_lt b 91) ≡ x → (nat_lt 96 b && nat_lt b 123) ≡ y → (x || y) ≡ true → (64 < b) × (b < 123) × (b ≢ 91)
    by_cases true y isx isy o = let p = both (nat_lt 64 b) (nat_lt b 91) isx in let low = lt_is 64 b p.0 in let high = lt_is b 91 p.1 in (low, omega (arith, high), (λ e. absurd (omega (arith, high, e))))
    by_cases false true isx isy o = let p = both (nat_lt 96 b) (nat_lt b 123) isy in let low = lt_is 96 b p.0 in let high = lt_is b 123 p.1 in (omega (arith, low), high, (λ e. absurd (omega (arith, low, e))))
    by_cases false false isx isy o = absurd (cc)

pub or_cases : (x y : Bool) → (x || y) ≡ true → (P : Type 0) → (x ≡ true → P) → (y ≡ true → P) → P
or_cases true y e P f g = f refl
or_cases false y e P f g = g e

tail_range : (b : ℕ) → (is_letter b || (nat_lt 47 b && nat_lt b 58) || b == 95) ≡ true → (47 < b) × (b < 123)
tail_range b e =
    or_cases (is_letter b || (nat_lt 47 b && nat_lt b 58)) (b == 95) e ((47 < b) × (b < 123))
    (λ first. or_cases (is_letter b) (nat_lt 47 b && nat_lt b 58) first ((47 < b) × (b < 123))
    (λ l. let r = letter_range b l in (omega (arith, r.0), r.1))
    (λ d. let p = both (nat_lt 47 b) (nat_lt b 58) d in (lt_is 47 b p.0, omega (arith, lt_is b 58 p.1))))
    (λ u. let is = eqb-true b 95 u in (omega (arith, is), omega (arith, is)))

-- bytes of names
abbrev Named : List ℕ → Type 0
Named [] = Unit {0}
Named (b ∷ bs) = (47 < b) × (b < 123) × Named bs

tail_named : (room : ℕ) (bs : List ℕ) → is_tail room bs ≡ true → Named bs
tail_named room [] e = tt
tail_named zero (b ∷ bs) e = absurd (cc)
tail_named (suc room) (b ∷ bs) e =
    let p = both (is_letter b || (nat_lt 47 b && nat_lt b 58) || b == 95) (is_tail room bs) e in
    let r = tail_range b p.0 in
    (r.0, r.1, tail_named room bs p.1)

pub name_named : (bs : List ℕ) → is_name bs ≡ true → Named bs
name_named [] e = absurd (cc)
name_named (b ∷ bs) e =
    let p = both (is_letter b) (is_tail 15 bs) e in
    let r = letter_range b p.0 in
    (omega (arith, r.0), r.1, tail_named 15 bs p.1)

pub plain_named : (bs : List ℕ) → Named bs → Plain bs
plain_named [] n = tt
plain_named (b ∷ bs) n = ((λ e. absurd (omega (arith, n.0, e))), (λ e. absurd (omega (arith, n.0, e))), plain_named bs n.2)

ascii_step : (done : List ℕ) (b : ℕ) (bs : List ℕ) → b < 123 → ascii_on done (b ∷ bs) ≡ ascii_on (done ++ b ∷ []) bs
ascii_step done b bs small = grind (arith, nat_tests)

pub ascii_named : (bs done : List ℕ) → Named bs → ascii_on done bs ≡ Some (done ++ bs)
ascii_named [] done n = ap Some (sym (append-nil done))
ascii_named (b ∷ bs) done n = ascii_step done b bs n.1 ∙ ascii_named bs (done ++ b ∷ []) n.2 ∙ ap Some (append_assoc done (b ∷ []) bs)

letter_var : (params : List ParamRange) (b : ℕ) (bs : List ℕ) → 64 < b → b ≢ 91 → var_of params (b ∷ bs) ≡ option_map var.Param (place_of 0 params (b ∷ bs))
letter_var params b bs low other = grind (arith, nat_tests)

name_var : (params : List ParamRange) (name : List ℕ) → is_name name ≡ true → var_of params name ≡ option_map var.Param (place_of 0 params name)
name_var params [] e = absurd (cc)
name_var params (b ∷ bs) e = let r = letter_range b (both (is_letter b) (is_tail 15 bs) e).0 in letter_var params b bs r.0 r.2

itself_is : (params : List ParamRange) (place : ℕ) (o : Option ℕ) → names_itself params place o ≡ true → o ≡ Some place
itself_is params place None e = absurd (cc)
itself_is params place (Some found) e = ap Some (eqb-true found place e)

param_parts : (params : List ParamRange) (place : ℕ) → param_exists params place ≡ true → (is_name (name_at params place) ≡ true) × (place_of 0 params (name_at params place) ≡ Some place)
param_parts params place e =
    let p = both (is_name (name_at params place)) (names_itself params place (place_of 0 params (name_at params place))) e in
    (p.0, itself_is params place (place_of 0 params (name_at params place)) p.1)

-- variables
word_parts : (stack : ℕ) (z : ℤ) → word_exists stack z ≡ true → unsigned_abs z < 2 ^ 31
word_parts stack z e = let p = split4 (int_lt z (pos 0)) (nat_le (unsigned_abs z) stack) (nat_lt (unsigned_abs z) (2 ^ 31)) _ e in lt_is (unsigned_abs z) (2 ^ 31) p.2

pub var_back : (f : Form) (v : Var) → var_exists f v ≡ true → (var_of f.params (var_text f.params v) ≡ Some v) × Plain (var_text f.params v)
var_back f (var.Register r) e =
    let low = lt_is r 15 e in
    (ap (option_map var.Register) (number_decimal 256 r (omega (arith, low)) (omega arith)), plain_both (codes "%r") (decimal r) (plain_fixed (codes "%r") refl) (plain_decimal r (omega (arith, low))))
var_back f (var.Word z) e =
    let small = word_parts _ z e in
    let wide : unsigned_abs z < 2 ^ 127 = omega (arith, small) in (
      ap (λ (bs : List ℕ). option_map var.Word (narrow_of bs)) (before_mark 93 (signed_decimal z) [] (bracket_mark z wide)) ∙ ap (option_map var.Word) (narrow_back z (small_narrow z small)),
      plain_both (codes "[" ++ signed_decimal z) (codes "]") (plain_both (codes "[") (signed_decimal z) (plain_fixed (codes "[") refl) (plain_signed z wide)) (plain_fixed (codes "]") refl),
    )
var_back f (var.Param place) e =
    let p = param_parts f.params place e in
    (name_var f.params (name_at f.params place) p.0 ∙ ap (option_map var.Param) p.1, plain_named (name_at f.params place) (name_named (name_at f.params place) p.0))
var_back f var.StartSp e = (refl, plain_fixed (codes "%sp") refl)
var_back f (var.Count id) e =
    let p = split3 (u32_ok id) (nat_lt 0 id) _ e in
    (ap (option_map var.Count) (small_back id p.0), plain_both (codes "#") (decimal id) (plain_fixed (codes "#") refl) (small_plain id p.0))

-- terms
term_back : (f : Form) (t : RowTerm) → is_within t.factor ≡ true → var_exists f t.var ≡ true → (term_of f.params (row_term_text f.params t) ≡ Some t) × Plain (row_term_text f.params t)
term_back f t within exists =
    let v = var_back f t.var exists in
    let small = wide_small t.factor within in
    let clear = signed_mark t.factor small in
    let name = var_text f.params t.var in
    let grouped : row_term_text f.params t ≡ signed_decimal t.factor ++ (42 ∷ name) = append_assoc (signed_decimal t.factor) (codes "*") name in (
      ap (term_of f.params) grouped
          ∙ (λ i. term_with (signed_word (before_mark 42 (signed_decimal t.factor) name clear i)) (var_of f.params (byte_off (from_mark 42 (signed_decimal t.factor) name clear i))))
          ∙ (λ i. term_with (wide_back t.factor within i) (v.0 i)),
      plain_both (signed_decimal t.factor ++ codes "*") name (plain_both (signed_decimal t.factor) (codes "*") (plain_signed t.factor small) (plain_fixed (codes "*") refl)) v.1,
    )

terms_back : (f : Form) (ts : List RowTerm) → all_within ts ≡ true → vars_exist f ts ≡ true → EachReads (term_of f.params) (row_term_text f.params) ts × AllPlain (map (row_term_text f.params) ts)
terms_back f [] within exist = (tt, tt)
terms_back f (t ∷ ts) within exist =
    let w = both (is_within t.factor) (all_within ts) within in
    let x = both (var_exists f t.var) (vars_exist f ts) exist in
    let here = term_back f t w.0 x.0 in
    let further = terms_back f ts w.1 x.1 in
    ((here.0, further.0), (here.1, further.1))

-- coefficients
coef_back : (params : List ParamRange) (c : Coef) → is_within c.factor ≡ true → param_exists params c.param ≡ true → (coef_of params (coef_text params c) ≡ Some c) × Plain (coef_text params c)
coef_back params c within exists =
    let p = param_parts params c.param exists in
    let small = wide_small c.factor within in
    let clear = signed_mark c.factor small in
    let name = name_at params c.param in
    let grouped : coef_text params c ≡ signed_decimal c.factor ++ (42 ∷ name) = append_assoc (signed_decimal c.factor) (codes "*") name in (
      ap (coef_of params) grouped
          ∙ (λ i. coef_with (signed_word (before_mark 42 (signed_decimal c.factor) name clear i)) (place_of 0 params (byte_off (from_mark 42 (signed_decimal c.factor) name clear i))))
          ∙ (λ i. coef_with (wide_back c.factor within i) (p.1 i)),
      plain_both (signed_decimal c.factor ++ codes "*") name (plain_both (signed_decimal c.factor) (codes "*") (plain_signed c.factor small) (plain_fixed (codes "*") refl)) (plain_named name (name_named name p.0)),
    )

pub coefs_back : (params : List ParamRange) (cs : List Coef) (least : ℕ) → coefs_from params least cs ≡ true → EachReads (coef_of params) (coef_text params) cs × AllPlain (map (coef_text params) cs)
coefs_back params [] least e = (tt, tt)
coefs_back params (c ∷ cs) least e =
    let p = split5 (nat_le least c.param) (param_exists params c.param) (is_within c.factor) (nat_lt 0 (unsigned_abs c.factor)) (coefs_from params (c.param + 1) cs) e in
    let here = coef_back params c p.2 p.1 in
    let further = coefs_back params cs (c.param + 1) p.4 in
    ((here.0, further.0), (here.1, further.1))

-- rows

row_back : (r : Inequality) → is_row r ≡ true → row_with r.constant r.terms ≡ Some r
row_back r e =
    let p = split4 (collected r.terms) (divisor_of r.terms == 1) (all_within r.terms) (is_within r.constant) e in
    let c = collected_is r.terms p.0 in
    let is : IsRow r.terms r.constant = record { ascending = c.ascending; nonzero = c.nonzero; lowest = eqb-true (divisor_of r.terms) 1 p.1; terms_within = p.2; constant_within = p.3 } in
    ap (λ (b : Bool). if b then row_of (form_of r) else None) p.0 ∙ row_of_row r is

-- CONSTANT TERM*
pub row_reads : (f : Form) (r : Inequality) → is_row r ≡ true → vars_exist f r.terms ≡ true → (row_from f.params (signed_decimal r.constant ∷ map (row_term_text f.params) r.terms) ≡ Some r) × AllPlain (signed_decimal r.constant ∷ map (row_term_text f.params) r.terms)
row_reads f r e exist =
    let p = split4 (collected r.terms) (divisor_of r.terms == 1) (all_within r.terms) (is_within r.constant) e in
    let terms = terms_back f r.terms p.2 exist in (
      (λ i. option_and_then (λ (c : ℤ). option_and_then (λ (ts : List RowTerm). row_with c ts) (all_read (term_of f.params) (row_term_text f.params) r.terms [] terms.0 i)) (wide_back r.constant p.3 i)) ∙ row_back r e,
      (plain_signed r.constant (wide_small r.constant p.3), terms.1),
    )

pub fact_reads : (f : Form) (i : ℕ) (q : Fact) → fact_ok f i q ≡ true → Reads f.params (codes "fact") (decimal i ∷ decimal q.block ∷ decimal q.index ∷ signed_decimal q.row.constant ∷ map (row_term_text f.params) q.row.terms) (line.Fact i q)
fact_reads f i q ok =
    let p = split6 (u32_ok i) (i == length f.facts) (point_exists f q.block q.index) (is_row q.row) (vars_exist f q.row.terms) _ ok in
    let names = points_small f q.block q.index p.2 in
    let row = row_reads f q.row p.3 p.4 in
    let tail = signed_decimal q.row.constant ∷ map (row_term_text f.params) q.row.terms in
    let plain : AllPlain (decimal i ∷ decimal q.block ∷ decimal q.index ∷ tail) = (small_plain i p.0, (small_plain q.block names.0, (small_plain q.index names.1, row.1))) in (
      plain,
      ap (fact_from f.params) (words_read (decimal i ∷ decimal q.block ∷ decimal q.index ∷ tail) plain)
          ∙ (λ k. option_and_then (λ (h : ℕ × ℕ × ℕ). option_map (λ (row : Inequality). line.Fact h.0 (record { block = h.1; index = h.2; row = row })) (row.0 k)) (three_read i q.block q.index tail p.0 names.0 names.1 k)),
    )

pub row_line_reads : (f : Form) (r : ReportRow) → row_ok f r ≡ true → Reads f.params (codes "row") (decimal r.block ∷ signed_decimal r.row.constant ∷ map (row_term_text f.params) r.row.terms) (line.Row r)
row_line_reads f r ok =
    let p = split5 (u32_ok r.block) _ (is_row r.row) (vars_exist f r.row.terms) _ ok in
    let row = row_reads f r.row p.2 p.3 in
    let tail = signed_decimal r.row.constant ∷ map (row_term_text f.params) r.row.terms in
    let plain : AllPlain (decimal r.block ∷ tail) = (small_plain r.block p.0, row.1) in (
      plain,
      ap (row_line_from f.params) (words_read (decimal r.block ∷ tail) plain)
          ∙ (λ k. option_and_then (λ (b : ℕ). option_map (λ (row : Inequality). line.Row (record { block = b; row = row })) (row.0 k)) (small_back r.block p.0 k)),
    )
