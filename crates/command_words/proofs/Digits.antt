-- Numbers of a few digits.
use Rattle.std.proofs.Common.{◌≡◌, ℕ, ◌+◌, ◌*◌, ◌^◌, ◌<◌, ◌≤◌, refl, sym, ap, ◌∙◌, arith, add-one, lit<, List, [], ◌∷◌, length, drop, get_or, Option, Some, None}
use Rattle.std.proofs.lemmas.List.{drop_more}
use Rattle.std.proofs.lemmas.Bool.Decides.{nat_tests}
use Rattle.std.specs.Prelude.{option_and_then}
use Rattle.std.proofs.Math.Nat.{pow-suc, pow-le-pow_right}
use Rattle.command_words.specs.Numerals.{decimal_after, decimal_digit, within}

-- one more digit
pub hex_more : (value places digit : ℕ) → value < 16 ^ places → digit < 16 → value * 16 + digit < 16 ^ (places + 1)
hex_more value places digit small low = rw (add-one, pow-suc) (omega arith)

-- another digit leaves a number of at most eight below 2 ^ 32
pub hex_room : (value places digit : ℕ) → value < 16 ^ places → places < 8 → digit < 16 → value * 16 + digit < 2 ^ 32
hex_room value places digit small few low =
    let most : 16 ^ places ≤ 16 ^ 7 = pow-le-pow_right {n = 16} (lit< tt) {i = places} {j = 7} (omega arith) in
    let number : 16 ^ 7 ≡ 268435456 = refl in
    omega (arith, most, number)

great_digit : (least most value : ℕ) (ds : List ℕ) (found : Option ℕ) → ((digit : ℕ) → option_and_then (within least most) (decimal_after (value * 10 + digit) ds) ≡ None) → option_and_then (within least most) (option_and_then (λ digit. decimal_after (value * 10 + digit) ds) found) ≡ None
great_digit least most value ds None none = refl
great_digit least most value ds (Some digit) none = none digit

-- further digits make no number smaller
pub too_great : (least most value : ℕ) (digits : List ℕ) → most < value → option_and_then (within least most) (decimal_after value digits) ≡ None
too_great least most value [] great = grind (arith, nat_tests)
too_great least most value (d ∷ ds) great =
    great_digit least most value ds (decimal_digit d) (λ digit. too_great least most (value * 10 + digit) ds (omega (arith, great)))

-- a digit that passes the most leaves no number within the limits
pub passed_most : (least most value i digit : ℕ) (digits : List ℕ) → option_and_then (within least most) (decimal_after value (drop i digits)) ≡ option_and_then (within least most) (decimal_after 0 digits) → i < length digits → Some digit ≡ decimal_digit (get_or digits i 0) → most < value * 10 + digit → ◌≡◌ {A = Option ℕ} None (option_and_then (within least most) (decimal_after 0 digits))
passed_most least most value i digit digits rest inside is great =
    let next : decimal_after value (drop i digits) ≡ decimal_after (value * 10 + digit) (drop (i + 1) digits) = rw (drop_more digits i 0 inside, ← is) refl in
    sym (too_great least most (value * 10 + digit) (drop (i + 1) digits) great) ∙ ap (option_and_then (within least most)) (sym next) ∙ rest
