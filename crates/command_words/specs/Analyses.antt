-- The words after the places of an analysis: the parameters with their ranges, and the stack.
use Rattle.std.specs.Prelude.{◌≡◌, ℕ, ℤ, pos, negsuc, ◌≤◌, ◌<◌, ◌≤ℤ◌, ◌==◌, ◌%◌, ◌&&◌, ◌||◌, true, false, if◌then◌else◌}
use Rattle.std.specs.Prelude.{IfSome, is_some, unwrap_or, int_le, Option, Some, None, option_map, option_and_then}
use Rattle.std.specs.Prelude.{List, [], ◌∷◌, ◌++◌, codes}
use Rattle.std.specs.Str.{bytes_eq}
use Rattle.std.specs.List.{AllByRecursion, list_any}
use Rattle.wsym_terms.specs.declared.bounds.ParamRange.{ParamRange}
use Rattle.command_words.specs.Numerals.{signed_number}
use Rattle.command_words.specs.Parts.{after_mark, before_mark, has_equals_sign, has_mark, is_name, key_of, register_of}
use Rattle.command_words.specs.Parts.{stack_of, text_of}
use Rattle.command_words.specs.declared.analyses.AnalysisSetup.{AnalysisSetup}
use Rattle.command_words.specs.declared.analyses.GivenAnalysis.{GivenAnalysis}
use Rattle.command_words.specs.declared.analyses.Place.{Place}

-- the number after a second dot
abbrev pub high_of : List ℕ → Option ℤ
high_of [] = None
high_of (first ∷ others) = if first == 46 then signed_number others else None

abbrev pub place_with : ℕ → ℤ → ℤ → Option Place
place_with k low high = if int_le low high then Some (record { register = k; low = low; high = high }) else None

-- LO..HI
abbrev pub range_after : ℕ → List ℕ → Option Place
range_after k text =
    if has_mark 46 text
    then option_and_then (λ low. option_and_then (place_with k low) (high_of (after_mark 46 text)))
    (signed_number (before_mark 46 text))
    else None

-- rK:LO..HI
abbrev pub place_of : List ℕ → Option Place
place_of text =
    if has_mark 58 text
    then option_and_then (λ k. range_after k (after_mark 58 text)) (register_of (before_mark 58 text))
    else None

abbrev pub param_at : List ℕ → Place → ParamRange
param_at name p = record { name = name; register = p.register; low = p.low; high = p.high }

-- NAME:rK:LO..HI
abbrev pub param_of : List ℕ → Option ParamRange
param_of text =
    if has_mark 58 text && is_name (before_mark 58 text)
    then option_map (param_at (before_mark 58 text)) (place_of (after_mark 58 text))
    else None

abbrev pub nothing_given : GivenAnalysis
nothing_given = record { params = []; stack = None }

-- a parameter whose name and register are new
abbrev pub given_param : GivenAnalysis → ParamRange → Option GivenAnalysis
given_param given p =
    if list_any (λ q. bytes_eq q.name p.name) given.params || list_any (λ q. q.register == p.register) given.params
    then None
    else Some (record given { params = given.params ++ p ∷ [] })

abbrev pub after_param : GivenAnalysis → List ℕ → Option GivenAnalysis
after_param given text = option_and_then (given_param given) (param_of text)

-- the stack's size is given once
abbrev pub after_stack : GivenAnalysis → List ℕ → Option GivenAnalysis
after_stack given text =
    if is_some given.stack then None else option_map (λ n. record given { stack = Some n }) (stack_of text)

abbrev pub after_key : GivenAnalysis → List ℕ → List ℕ → Option GivenAnalysis
after_key given key text =
    if bytes_eq key (codes "param") then after_param given text
    else if bytes_eq key (codes "stack") then after_stack given text
    else None

abbrev pub after_word : GivenAnalysis → List ℕ → Option GivenAnalysis
after_word given word = if has_equals_sign word then after_key given (key_of word) (text_of word) else None

abbrev pub after_words : GivenAnalysis → List (List ℕ) → Option GivenAnalysis
after_words given [] = Some given
after_words given (word ∷ words) = option_and_then (λ next. after_words next words) (after_word given word)

-- without a word of the stack it has 4,096 bytes
abbrev pub analysis_with : GivenAnalysis → AnalysisSetup
analysis_with given = record { params = given.params; stack = unwrap_or given.stack 4096 }

abbrev pub analysis_of : List (List ℕ) → Option AnalysisSetup
analysis_of words = option_map analysis_with (after_words nothing_given words)

-- a register below 13, and two signed numbers of 32 bits in their order
pub record IsPlace (p : Place) : Type 0 where
  pub register : p.register < 13
  pub least : negsuc 2147483647 ≤ℤ p.low
  pub ordered : p.low ≤ℤ p.high
  pub most : p.high ≤ℤ pos 2147483647

-- the same of a parameter, with its name
pub record IsRange (p : ParamRange) : Type 0 where
  pub name : is_name p.name ≡ true
  pub register : p.register < 13
  pub least : negsuc 2147483647 ≤ℤ p.low
  pub ordered : p.low ≤ℤ p.high
  pub most : p.high ≤ℤ pos 2147483647

abbrev pub DiffersFrom : ParamRange → ParamRange → Type 0
DiffersFrom p q = (bytes_eq p.name q.name ≡ false) × ((p.register == q.register) ≡ false)

-- parameters, no two of which have the same name or the same register
abbrev pub AreRanges : List ParamRange → Type 0
AreRanges [] = Unit {0}
AreRanges (p ∷ params) = IsRange p × AllByRecursion (DiffersFrom p) params × AreRanges params

-- what a report wants of the parameters and the stack
pub record IsAnalysis (setup : AnalysisSetup) : Type 0 where
  pub params : AreRanges setup.params
  pub stack : setup.stack ≤ 1048576
  pub whole : setup.stack % 4 ≡ 0

-- the same of what the words gave so far
pub record IsGiven (given : GivenAnalysis) : Type 0 where
  pub params : AreRanges given.params
  pub stack : IfSome given.stack (λ n. (n ≤ 1048576) × (n % 4 ≡ 0))
