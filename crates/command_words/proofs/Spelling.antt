-- Numbers and the texts that are written of them.
use Rattle.std.proofs.Common.{◌≡◌, ◌↔◌, ℕ, zero, suc, ◌+◌, ◌*◌, ◌^◌, ◌<◌, ◌≤◌, refl, sym, ap, subst, ◌∙◌, arith, List, [], ◌∷◌, length, get_or, Option, Some, None, Bool, true, false, if◌then◌else◌}
use Rattle.std.specs.Prelude.{option_and_then}
use Rattle.std.specs.Char.{digit_value}
use Rattle.std.specs.Fmt.{decimal}
use Rattle.std.specs.Str.Parse.{AllDigits, digits_value, digits_value_after}
use Rattle.std.proofs.lemmas.Bool.Decides.{nat_tests}
use Rattle.std.proofs.lemmas.Str.Parse.{IsNumeralModel}
use Rattle.std.proofs.lemmas.Fmt.{decimal_digit as decimal_of_digit, decimal_is_IsNumeral, decimal_nonempty, first_decimal, decimal-digits_value}
use Rattle.command_words.specs.Numerals.{decimal_after, decimal_digit, is_plain, number_within, within}

digit_is : (c : ℕ) → digit_value c < 10 → decimal_digit c ≡ Some (digit_value c)
digit_is c low = grind (arith, nat_tests)

digit_of : (c d : ℕ) → decimal_digit c ≡ Some d → (digit_value c < 10) × (digit_value c ≡ d)
digit_of c d is = grind (arith, nat_tests)

after_digits : (v : ℕ) (ds : List ℕ) → AllDigits 10 ds → decimal_after v ds ≡ Some (digits_value_after 10 v ds)
after_digits v [] h = refl
after_digits v (d ∷ ds) h = rw (digit_is d h.0) (after_digits (v * 10 + digit_value d) ds h.1)

some_step : (v n d : ℕ) (ds : List ℕ) (o : Option ℕ) → decimal_digit d ≡ o → ((digit : ℕ) → decimal_after (v * 10 + digit) ds ≡ Some n → AllDigits 10 ds × (digits_value_after 10 (v * 10 + digit) ds ≡ n)) → option_and_then (λ digit. decimal_after (v * 10 + digit) ds) o ≡ Some n → AllDigits 10 (d ∷ ds) × (digits_value_after 10 v (d ∷ ds) ≡ n)
some_step v n d ds None e f h = absurd (cc)
some_step v n d ds (Some digit) e f h =
    let p = digit_of d digit e in
    let r = f digit h in
    ((p.0, r.0), ap (λ (m : ℕ). digits_value_after 10 (v * 10 + m) ds) p.1 ∙ r.1)

some_digits : (v n : ℕ) (ds : List ℕ) → decimal_after v ds ≡ Some n → AllDigits 10 ds × (digits_value_after 10 v ds ≡ n)
some_digits v n [] h = (tt, cc)
some_digits v n (d ∷ ds) h = some_step v n d ds (decimal_digit d) refl (λ digit. some_digits (v * 10 + digit) n ds) h

own : IsNumeralModel (AllDigits 10) (digits_value 10)
own = record { to = λ ds h. h; from = λ ds h. h; same = λ ds h. refl }

plain_text : (ds : List ℕ) → 0 < length ds → 48 < get_or ds 0 0 → is_plain ds ≡ true
plain_text [] some high = absurd (omega (arith, some))
plain_text (d ∷ ds) some high = grind (arith, nat_tests)

plain_decimal : (n : ℕ) → n < 2 ^ 64 → is_plain (decimal n) ≡ true
plain_decimal zero small = ap is_plain (decimal_of_digit 0 (omega arith))
plain_decimal (suc n) small = plain_text (decimal (suc n)) (decimal_nonempty (suc n) small) (first_decimal (suc n) (omega arith) small)

plain_parts : (ds : List ℕ) → is_plain ds ≡ true → (0 < length ds) × (get_or ds 0 0 ≡ 48 → length ds ≡ 1)
plain_parts [] h = absurd (cc)
plain_parts (d ∷ ds) h = (omega arith, λ zero_leads. grind (arith, nat_tests))

within_parts : (least most m n : ℕ) → within least most m ≡ Some n → (m ≡ n) × (least ≤ n) × (n ≤ most)
within_parts least most m n h = grind (arith, nat_tests)

within_limits : (least most n : ℕ) → least ≤ n → n ≤ most → within least most n ≡ Some n
within_limits least most n low high = grind (arith, nat_tests)

read_value : (least most n : ℕ) (ds : List ℕ) (o : Option ℕ) → decimal_after 0 ds ≡ o → option_and_then (within least most) o ≡ Some n → (decimal_after 0 ds ≡ Some n) × (least ≤ n) × (n ≤ most)
read_value least most n ds None e h = absurd (cc)
read_value least most n ds (Some m) e h =
    let p = within_parts least most m n h in
    (e ∙ ap Some p.0, p.1, p.2)

read_text : (least most n : ℕ) (ds : List ℕ) (b : Bool) → is_plain ds ≡ b → n < 2 ^ 64 → (if b then option_and_then (within least most) (decimal_after 0 ds) else None) ≡ Some n → (ds ≡ decimal n) × (least ≤ n) × (n ≤ most)
read_text least most n ds false e small h = absurd (cc)
read_text least most n ds true e small h =
    let r = read_value least most n ds (decimal_after 0 ds) refl h in
    let s = some_digits 0 n ds r.0 in
    let p = plain_parts ds e in
    let written : decimal (digits_value 10 ds) ≡ ds = decimal-digits_value own ds s.0 p.0 p.1 (subst (λ (m : ℕ). m < 2 ^ 64) (sym s.1) small) in
    (sym written ∙ ap decimal s.1, r.1, r.2)

written_number : (least most n : ℕ) → n < 2 ^ 64 → least ≤ n → n ≤ most → number_within least most (decimal n) ≡ Some n
written_number least most n small low high =
    let d = decimal_is_IsNumeral n small in
    let a : decimal_after 0 (decimal n) ≡ Some n = after_digits 0 (decimal n) d.0.1 ∙ ap Some d.1 in
    rw (plain_decimal n small, a) (within_limits least most n low high)

-- a text spells a number exactly where it is what is written of the number
pub spelled : (least most : ℕ) (text : List ℕ) (n : ℕ) → n < 2 ^ 64 → (number_within least most text ≡ Some n) ↔ ((text ≡ decimal n) × (least ≤ n) × (n ≤ most))
spelled least most text n small = (
  λ h. read_text least most n text (is_plain text) refl small h,
  λ h. subst (λ (t : List ℕ). number_within least most t ≡ Some n) (sym h.0) (written_number least most n small h.1 h.2),
)
