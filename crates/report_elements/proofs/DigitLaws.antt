-- A word of digits is read as the number that it writes.
use Rattle.std.proofs.Common.{ℕ, ◌+◌, ◌-◌, ◌*◌, ◌^◌, ◌<◌, ◌≤◌, ◌≡◌, List, [], ◌∷◌, Some, refl, sym, ap, ◌∙◌, subst, arith}
use Rattle.std.proofs.lemmas.Bool.Decides.{nat_tests}
use Rattle.std.specs.Fmt.{decimal}
use Rattle.std.specs.Char.{digit_value}
use Rattle.std.specs.Int.{IsInRange}
use Rattle.std.specs.Str.Parse.{AllDigits, digits_value_after}
use Rattle.std.proofs.lemmas.Str.{digit_value_digit}
use Rattle.std.proofs.lemmas.Str.Parse.{digit_from_value}
use Rattle.std.proofs.lemmas.Fmt.{decimal_is_IsNumeral_wide}
use Rattle.report_elements.specs.Numbers.{number_below}

le_after : (n : ℕ) (ds : List ℕ) → n ≤ digits_value_after 10 n ds
le_after n [] = omega arith
le_after n (c ∷ cs) = omega (arith, le_after (n * 10 + digit_value c) cs)

number_step : (limit n b : ℕ) (bs : List ℕ) → IsInRange 48 57 b → n * 10 + (b - 48) < limit → number_below limit n (b ∷ bs) ≡ number_below limit (n * 10 + (b - 48)) bs
number_step limit n b bs range small = grind (arith, nat_tests)

number_digits : (limit n : ℕ) (ds : List ℕ) → AllDigits 10 ds → digits_value_after 10 n ds < limit → number_below limit n ds ≡ Some (digits_value_after 10 n ds)
number_digits limit n [] d small = refl
number_digits limit n (c ∷ cs) d small =
    let range = digit_from_value c d.0 in
    let same : digit_value c ≡ c - 48 = omega (arith, digit_value_digit c range) in
    let small2 = subst (λ (v : ℕ). digits_value_after 10 (n * 10 + v) cs < limit) same small in
    number_step limit n c cs range (omega (arith, le_after (n * 10 + (c - 48)) cs, small2))
    ∙ number_digits limit (n * 10 + (c - 48)) cs d.1 small2
    ∙ ap (λ (v : ℕ). Some (digits_value_after 10 (n * 10 + v) cs)) (sym same)

pub number_decimal : (limit n : ℕ) → n < limit → limit ≤ 2 ^ 127 → number_below limit 0 (decimal n) ≡ Some n
number_decimal limit n small wide =
    let is = decimal_is_IsNumeral_wide n (omega arith) in
    number_digits limit 0 (decimal n) is.0.1 (subst (λ (v : ℕ). v < limit) (sym is.1) small) ∙ ap Some is.1

pub digits_decimal : (n : ℕ) → n < 2 ^ 127 → AllDigits 10 (decimal n)
digits_decimal n small = (decimal_is_IsNumeral_wide n (omega arith)).0.1
