-- The words of an evaluation: the file of a report, and values by the names of its parameters.
use Rattle.std.specs.Prelude.{ℕ, ◌&&◌, if◌then◌else◌, Option, Some, None, option_map, option_and_then}
use Rattle.std.specs.Prelude.{List, [], ◌∷◌, ◌++◌}
use Rattle.command_words.specs.Numerals.{wide_number}
use Rattle.command_words.specs.Parts.{has_equals_sign, is_name, key_of, text_of}
use Rattle.command_words.specs.declared.valuations.NamedValue.{NamedValue}
use Rattle.command_words.specs.declared.valuations.Valuation.{Valuation}

-- NAME=VALUE
abbrev pub value_of : List ℕ → Option NamedValue
value_of word =
    if has_equals_sign word && is_name (key_of word)
    then option_map (λ v. record { name = key_of word; value = v }) (wide_number (text_of word))
    else None

abbrev pub values_after : List NamedValue → List (List ℕ) → Option (List NamedValue)
values_after values [] = Some values
values_after values (word ∷ words) = option_and_then (λ v. values_after (values ++ v ∷ []) words) (value_of word)

-- REPORT, which holds no `=`, and values
abbrev pub valuation_of : List (List ℕ) → Option Valuation
valuation_of [] = None
valuation_of (report ∷ words) =
    if has_equals_sign report then None
    else option_map (λ values. record { report = report; values = values }) (values_after [] words)
