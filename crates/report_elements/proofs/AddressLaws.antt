-- The text of an address is read as the address.
use Rattle.std.proofs.Common.{ℕ, zero, suc, ◌+◌, ◌-◌, ◌*◌, ◌^◌, ◌<◌, ◌≤◌, ◌≡◌, List, [], ◌∷◌, ◌++◌, Option, Some, None, Bool, true, false, nat_lt, if◌then◌else◌, refl, sym, ap, ◌∙◌, subst, append-nil, length, replicate, codes, arith}
use Rattle.std.proofs.lemmas.Bool.Decides.{nat_tests}
use Rattle.std.specs.Fmt.{digits, padded_integral, char_count}
use Rattle.std.specs.Char.{digit_value}
use Rattle.std.specs.Str.Parse.{AllDigits, digits_value_after}
use Rattle.std.proofs.lemmas.Fmt.{digits_is_IsNumeral}
use Rattle.report_elements.specs.Elements.{address_text}
use Rattle.report_elements.specs.Hexadecimal.{hex_on}

le_after : (n : ℕ) (ds : List ℕ) → n ≤ digits_value_after 16 n ds
le_after n [] = omega arith
le_after n (c ∷ cs) = omega (arith, le_after (n * 16 + digit_value c) cs)

lt_true : (a b : ℕ) → a < b → nat_lt a b ≡ true
lt_true a b low = grind (arith, nat_tests)

hex_step : (n b : ℕ) (bs : List ℕ) → digit_value b < 16 → n * 16 + digit_value b < 2 ^ 32 → hex_on n (b ∷ bs) ≡ hex_on (n * 16 + digit_value b) bs
hex_step n b bs low small =
    ap (λ (t : Bool). if t then (if nat_lt (n * 16 + digit_value b) (2 ^ 32) then hex_on (n * 16 + digit_value b) bs else None) else None) (lt_true (digit_value b) 16 low)
    ∙ ap (λ (t : Bool). if t then hex_on (n * 16 + digit_value b) bs else None) (lt_true (n * 16 + digit_value b) (2 ^ 32) small)

hex_digits : (n : ℕ) (ds : List ℕ) → AllDigits 16 ds → digits_value_after 16 n ds < 2 ^ 32 → hex_on n ds ≡ Some (digits_value_after 16 n ds)
hex_digits n [] d small = refl
hex_digits n (c ∷ cs) d small =
    hex_step n c cs d.0 (omega (arith, le_after (n * 16 + digit_value c) cs, small))
    ∙ hex_digits (n * 16 + digit_value c) cs d.1 small

hex_zeros : (k : ℕ) (bs : List ℕ) → hex_on 0 (replicate k 48 ++ bs) ≡ hex_on 0 bs
hex_zeros zero bs = refl
hex_zeros (suc k) bs = hex_zeros k bs

address_is : (a : ℕ) → (k : ℕ) × (address_text a ≡ codes "0x" ++ (replicate k 48 ++ (digits 16 false a ++ [])))
unfolding padded_integral char_count
address_is a = (_, refl)

pub address_read : (a : ℕ) → a < 2 ^ 32 → (bs : List ℕ) × (address_text a ≡ codes "0x" ++ bs) × (hex_on 0 bs ≡ Some a)
address_read a small =
    let text = address_is a in
    let is = digits_is_IsNumeral 16 false (omega arith) (omega arith) a (omega arith) in (
      replicate text.0 48 ++ (digits 16 false a ++ []),
      text.1,
      hex_zeros text.0 (digits 16 false a ++ [])
          ∙ ap (hex_on 0) (append-nil (digits 16 false a))
          ∙ hex_digits 0 (digits 16 false a) is.0.1 (subst (λ (v : ℕ). v < 2 ^ 32) (sym is.1) small)
          ∙ ap Some is.1,
    )
