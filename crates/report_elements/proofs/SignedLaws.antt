-- The text of a number with its sign is read as the number.
use Rattle.std.proofs.Common.{ℕ, ℤ, pos, negsuc, neg_ℤ, suc, ◌^◌, ◌<◌, ◌≤◌, ◌≡◌, List, [], ◌∷◌, Option, Some, refl, sym, ap, ◌∙◌, length, option_map, unsigned_abs, arith}
use Rattle.std.proofs.lemmas.Bool.Decides.{nat_tests}
use Rattle.std.specs.Fmt.{decimal, signed_decimal}
use Rattle.std.specs.Int.{IsInRange}
use Rattle.std.specs.Str.Parse.{AllDigits}
use Rattle.std.proofs.lemmas.Str.Parse.{digit_from_value}
use Rattle.std.proofs.lemmas.Fmt.{decimal_is_IsNumeral_wide}
use Rattle.report_elements.specs.Numbers.{number_below}
use Rattle.report_elements.proofs.DigitLaws.{number_decimal}
use Rattle.report_elements.specs.Signed.{minus, signed_of}

first_digit : (limit c : ℕ) (cs : List ℕ) → IsInRange 48 57 c → signed_of limit (c ∷ cs) ≡ option_map pos (number_below limit 0 (c ∷ cs))
first_digit limit c cs range = grind (arith, nat_tests)

plain : (limit : ℕ) (ds : List ℕ) → AllDigits 10 ds → 0 < length ds → signed_of limit ds ≡ option_map pos (number_below limit 0 ds)
plain limit [] d some = absurd (omega arith)
plain limit (c ∷ cs) d some = first_digit limit c cs (digit_from_value c d.0)

pub signed_read : (limit : ℕ) (z : ℤ) → unsigned_abs z < limit → limit ≤ 2 ^ 127 → signed_of limit (signed_decimal z) ≡ Some z
signed_read limit (pos n) small wide =
    let is = decimal_is_IsNumeral_wide n (omega arith) in
    plain limit (decimal n) is.0.1 is.0.0 ∙ ap (option_map pos) (number_decimal limit n small wide)
signed_read limit (negsuc n) small wide = ap (option_map minus) (number_decimal limit (suc n) small wide)
