-- The number that decimal digits write, with `-` before a negative one.
use Rattle.std.specs.Prelude.{ℕ, ℤ, pos, neg_ℤ, ◌==◌, if◌then◌else◌, List, [], ◌∷◌, Option, None}
use Rattle.std.specs.Option.{option_map}
use Rattle.report_elements.specs.Numbers.{number_below}

abbrev pub minus : ℕ → ℤ
minus n = neg_ℤ (pos n)

abbrev pub signed_of : ℕ → List ℕ → Option ℤ
signed_of limit [] = None
signed_of limit (b ∷ bs) =
    if b == 45 then option_map minus (number_below limit 0 bs)
    else option_map pos (number_below limit 0 (b ∷ bs))
