-- The numbers that words spell, in decimal and in hexadecimal digits.
use Rattle.std.specs.Prelude.{ℕ, ℤ, pos, ◌+◌, ◌-◌, ◌*◌, ◌-ℤ◌, ◌==◌, ◌&&◌, not, nat_le, Bool, false, if◌then◌else◌}
use Rattle.std.specs.Prelude.{Option, Some, None, option_map, option_and_then, List, [], ◌∷◌, length}

-- `0` to `9`
abbrev pub decimal_digit : ℕ → Option ℕ
decimal_digit b = if nat_le 48 b && nat_le b 57 then Some (b - 48) else None

-- the number that decimal digits spell after digits that spell a number already
abbrev pub decimal_after : ℕ → List ℕ → Option ℕ
decimal_after value [] = Some value
decimal_after value (d ∷ ds) = option_and_then (λ digit. decimal_after (value * 10 + digit) ds) (decimal_digit d)

-- there is a digit, and no zero leads others
abbrev pub is_plain : List ℕ → Bool
is_plain [] = false
is_plain (first ∷ others) = not ((first == 48) && nat_le 1 (length others))

abbrev pub within : ℕ → ℕ → ℕ → Option ℕ
within least most n = if nat_le least n && nat_le n most then Some n else None

-- a decimal number without leading zeros, within two limits
abbrev pub number_within : ℕ → ℕ → List ℕ → Option ℕ
number_within least most digits =
    if is_plain digits then option_and_then (within least most) (decimal_after 0 digits) else None

-- a signed number of a magnitude up to `least` below 0 and up to `most` above, with `-` before a number other than 0
abbrev pub signed_within : ℕ → ℕ → List ℕ → Option ℤ
signed_within least most [] = None
signed_within least most (first ∷ others) =
    if first == 45 then option_map (λ n. pos 0 -ℤ pos n) (number_within 1 least others)
    else option_map pos (number_within 0 most (first ∷ others))

-- of 32 bits
abbrev pub signed_number : List ℕ → Option ℤ
signed_number = signed_within 2147483648 2147483647

-- of at most 10 digits
abbrev pub wide_number : List ℕ → Option ℤ
wide_number = signed_within 9999999999 9999999999

-- `0` to `9`, and `a` to `f` in either case
abbrev pub hex_digit : ℕ → Option ℕ
hex_digit b =
    if nat_le 48 b && nat_le b 57 then Some (b - 48)
    else (if nat_le 97 b && nat_le b 102 then Some (b - 87)
    else (if nat_le 65 b && nat_le b 70 then Some (b - 55) else None))

-- the number that hexadecimal digits spell after digits that spell a number already
abbrev pub hex_after : ℕ → List ℕ → Option ℕ
hex_after value [] = Some value
hex_after value (d ∷ ds) = option_and_then (λ digit. hex_after (value * 16 + digit) ds) (hex_digit d)

-- `0x` and 1 to 8 hexadecimal digits
abbrev pub address_of : List ℕ → Option ℕ
address_of [] = None
address_of (first ∷ []) = None
address_of (first ∷ second ∷ digits) =
    if (first == 48) && (second == 120) && nat_le 1 (length digits) && nat_le (length digits) 8
    then hex_after 0 digits
    else None
