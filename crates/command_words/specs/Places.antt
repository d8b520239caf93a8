-- The words that stand directly after a command: what is analysed or run.
use Rattle.std.specs.Prelude.{ℕ, ◌&&◌, not, if◌then◌else◌, Option, Some, None, option_map, List, [], ◌∷◌, codes}
use Rattle.std.specs.Str.{bytes_eq}
use Rattle.command_words.specs.Numerals.{address_of}
use Rattle.command_words.specs.Parts.{has_equals_sign}
use Rattle.command_words.specs.declared.places.Task.{Task}
use Rattle.command_words.specs.declared.places.TimingWord.{TimingWord}
use Rattle.command_words.specs.declared.places.TimingWord.TheVariants as timing
use Rattle.command_words.specs.declared.places.FunctionWord.{FunctionWord}
use Rattle.command_words.specs.declared.places.FunctionWord.TheVariants as function

-- the built-in table, or a file's name
abbrev pub timing_of : List ℕ → TimingWord
timing_of word = if bytes_eq word (codes "unit") then timing.UnitTable else timing.File word

-- an address where the word spells one, else a symbol's name
abbrev pub address_or : List ℕ → Option ℕ → FunctionWord
address_or word None = function.Symbol word
address_or word (Some a) = function.Address a

abbrev pub function_of : List ℕ → FunctionWord
function_of word = address_or word (address_of word)

-- ELF TIMING FUNCTION, none of which holds `=`
abbrev pub task_of : List ℕ → List ℕ → List ℕ → Option Task
task_of elf timing_word function_word =
    if not (has_equals_sign elf) && not (has_equals_sign timing_word) && not (has_equals_sign function_word)
    then Some (record { elf = elf; timing = timing_of timing_word; function = function_of function_word })
    else None

-- the words of the places, and those after them
abbrev pub places_of : List (List ℕ) → Option (Task × List (List ℕ))
places_of [] = None
places_of (elf ∷ []) = None
places_of (elf ∷ timing_word ∷ []) = None
places_of (elf ∷ timing_word ∷ function_word ∷ words) =
    option_map (λ task. (task, words)) (task_of elf timing_word function_word)

-- the files that a task reads, in the order of the words
abbrev pub timing_files : TimingWord → List (List ℕ)
timing_files timing.UnitTable = []
timing_files (timing.File name) = name ∷ []
