-- The parts of a word after the places: what stands before and after a mark, names, registers and sizes.
use Rattle.std.specs.Prelude.{ℕ, ◌==◌, ◌%◌, ◌&&◌, ◌||◌, nat_le, Bool, false, if◌then◌else◌, Option, Some, None}
use Rattle.std.specs.Prelude.{option_and_then, List, [], ◌∷◌, length}
use Rattle.std.specs.List.{list_any, list_all, before_first, after_first}
use Rattle.command_words.specs.Numerals.{number_within}

abbrev pub is_mark : ℕ → ℕ → Bool
is_mark mark b = b == mark

abbrev pub has_mark : ℕ → List ℕ → Bool
has_mark mark = list_any (is_mark mark)

-- what stands before the first mark, and what stands after it
abbrev pub before_mark : ℕ → List ℕ → List ℕ
before_mark mark = before_first (is_mark mark)

abbrev pub after_mark : ℕ → List ℕ → List ℕ
after_mark mark = after_first (is_mark mark)

-- the same of `=`
abbrev pub has_equals_sign : List ℕ → Bool
has_equals_sign = has_mark 61

abbrev pub key_of : List ℕ → List ℕ
key_of = before_mark 61

abbrev pub text_of : List ℕ → List ℕ
text_of = after_mark 61

abbrev pub is_letter : ℕ → Bool
is_letter b = (nat_le 65 b && nat_le b 90) || (nat_le 97 b && nat_le b 122)

-- a letter, a digit or `_`
abbrev pub is_name_byte : ℕ → Bool
is_name_byte b = is_letter b || (nat_le 48 b && nat_le b 57) || (b == 95)

-- an ASCII letter followed by at most 15 letters, digits or `_`
abbrev pub is_name : List ℕ → Bool
is_name [] = false
is_name (first ∷ others) = is_letter first && nat_le (length others) 15 && list_all is_name_byte others

-- `r0` to `r12`
abbrev pub register_of : List ℕ → Option ℕ
register_of [] = None
register_of (first ∷ digits) = if first == 114 then number_within 0 12 digits else None

-- a multiple of 4 up to 2^20
abbrev pub if_words : ℕ → Option ℕ
if_words n = if n % 4 == 0 then Some n else None

abbrev pub stack_of : List ℕ → Option ℕ
stack_of text = option_and_then if_words (number_within 0 1048576 text)
