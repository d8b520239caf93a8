-- The value of a function by its name.
-- System V ABI, chapter 4, 'Symbol Table'. Bit 0 of the value of a function symbol says that its code is
-- Thumb code ('ELF for the Arm Architecture').
use Rattle.std.specs.Prelude.{ℕ, ◌%◌, ◌==◌, if◌then◌else◌, List, [], ◌∷◌, map, Option, Some, None, Result, Ok, Err}
use Rattle.std.specs.List.{filter, list_all}
use Rattle.std.specs.Str.{bytes_eq}
use Rattle.elf32_image.specs.Parts.{FunctionSymbol, ImageValue}
use Rattle.elf32_image.specs.declared.refusal.NameRefusal.{NameRefusal}
use Rattle.elf32_image.specs.declared.refusal.NameRefusal.TheVariants.{NoSymbol, TwoSymbols, ThumbCode}

-- the values of the symbols with the name
abbrev pub values_of : List ℕ → List FunctionSymbol → List ℕ
values_of name functions = map (λ f. f.value) (filter (λ f. bytes_eq f.name name) functions)

-- the value, where it is even
abbrev pub even_value : ℕ → Result ℕ NameRefusal
even_value value = if value % 2 == 1 then Err ThumbCode else Ok value

-- the one value among these, or why there is none
abbrev pub one_value : List ℕ → Result ℕ NameRefusal
one_value [] = Err NoSymbol
one_value (value ∷ values) = if list_all (λ v. value == v) values then even_value value else Err TwoSymbols

-- the value of the function with the name, or why there is none
abbrev pub function_of : ImageValue → List ℕ → Result ℕ NameRefusal
function_of image name = one_value (values_of name image.functions)

-- the one value of those found before and of these, none where there is none yet
abbrev pub agreed : Option ℕ → List ℕ → Result (Option ℕ) NameRefusal
agreed found [] = Ok found
agreed None (value ∷ values) = agreed (Some value) values
agreed (Some before) (value ∷ values) = if before == value then agreed (Some before) values else Err TwoSymbols

-- the value that was found, or why it is no address of a function
abbrev pub settled : Option ℕ → Result ℕ NameRefusal
settled None = Err NoSymbol
settled (Some value) = even_value value
