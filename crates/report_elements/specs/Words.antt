-- A line as words that one space sets apart, and how words are read one after another.
use Rattle.std.specs.Prelude.{ℕ, ◌^◌, ◌==◌, if◌then◌else◌, List, [], ◌∷◌, ◌++◌, Option, Some, None}
use Rattle.std.specs.Option.{option_and_then, option_map}
use Rattle.report_elements.specs.Numbers.{number_below}
use Rattle.report_elements.specs.Hexadecimal.{hex_on}

-- the bytes before the first mark, and those from it on
abbrev pub before : ℕ → List ℕ → List ℕ
before mark [] = []
before mark (b ∷ bs) = if b == mark then [] else b ∷ before mark bs

abbrev pub from : ℕ → List ℕ → List ℕ
from mark [] = []
from mark (b ∷ bs) = if b == mark then b ∷ bs else from mark bs

abbrev pub byte_off : List ℕ → List ℕ
byte_off [] = []
byte_off (b ∷ bs) = bs

-- the words of a text after the bytes of a word so far
abbrev pub words_on : List ℕ → List ℕ → List (List ℕ)
words_on w [] = w ∷ []
words_on w (b ∷ bs) = if b == 32 then w ∷ words_on [] bs else words_on (w ++ b ∷ []) bs

-- the words of a text in which a space stands before each
abbrev pub words : List ℕ → List (List ℕ)
words [] = []
words (b ∷ bs) = words_on [] bs

-- the first word read, and the words after it
abbrev pub front : {A : Type 0} → (List ℕ → Option A) → List (List ℕ) → Option A
front read [] = None
front read (w ∷ ws) = read w

abbrev pub later : List (List ℕ) → List (List ℕ)
later [] = []
later (w ∷ ws) = ws

-- each word read, after what was read before
abbrev pub all_on : {A : Type 0} → (List ℕ → Option A) → List A → List (List ℕ) → Option (List A)
all_on read done [] = Some done
all_on read done (w ∷ ws) = option_and_then (λ a. all_on read (done ++ a ∷ []) ws) (read w)

-- an address after `0x`
abbrev pub address_of : List ℕ → Option ℕ
address_of word = hex_on 0 (byte_off (byte_off word))

-- numbers of 32 bits
abbrev pub two : List (List ℕ) → Option (ℕ × ℕ)
two ws =
    option_and_then (λ (a : ℕ). option_map (λ (b : ℕ). (a, b)) (front (number_below (2 ^ 32) 0) (later ws)))
    (front (number_below (2 ^ 32) 0) ws)

abbrev pub three : List (List ℕ) → Option (ℕ × ℕ × ℕ)
three ws =
    option_and_then (λ (a : ℕ). option_map (λ (p : ℕ × ℕ). (a, p.0, p.1)) (two (later ws)))
    (front (number_below (2 ^ 32) 0) ws)
