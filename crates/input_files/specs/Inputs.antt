-- What the files of some names hold, and why one of them can't be read.
use Rattle.std.specs.Prelude.{◌≡◌, ℕ, ◌⊎◌, Bool, true, false, nat_lt, Option, List, [], ◌∷◌, length, map}
use Rattle.std.specs.List.{list_any}
use Rattle.wsym_io.specs.Io.{File, Rose, IfTold, file_bytes}
use Rattle.input_files.specs.declared.reading.InputRefusal.{InputRefusal}
use Rattle.input_files.specs.declared.reading.InputRefusal.TheVariants.{Memory, ReadFault, TooLong}

-- the greatest length of a file, in bytes
abbrev pub longest : ℕ
longest = 67108864

abbrev pub is_long : List ℕ → Bool
is_long bytes = nat_lt longest (length bytes)

-- a file is longer than the greatest length
abbrev pub is_any_long : List (List ℕ) → Bool
is_any_long files = list_any is_long files

-- what the files of these names hold
abbrev pub bytes_of : List File → List (List ℕ) → List (List ℕ)
bytes_of shelf names = map (file_bytes shelf) names

-- What was read: where the shelf says its content, what the files hold.
abbrev pub AreRead : Option (List File) → List (List ℕ) → List (List ℕ) → Type 0
AreRead content names files = IfTold content (λ shelf. files ≡ bytes_of shelf names)

-- The count of faults rose for one of these files, and those before it are not too long: a file is read after all before
-- it, and one that is too long ends the reading.
abbrev pub HasRisen : Option (List File) → (List ℕ → ℕ) → (List ℕ → ℕ) → List (List ℕ) → Type 0
HasRisen content before after [] = ⊥
HasRisen content before after (name ∷ names) = Rose (before name) (after name)
    ⊎ (IfTold content (λ shelf. is_long (file_bytes shelf name) ≡ false) × HasRisen content before after names)

-- why one of these files could not be read, with the counts of faults before and after
abbrev pub IsUnread : Option (List File) → (List ℕ → ℕ) → (List ℕ → ℕ) → List (List ℕ) → InputRefusal → Type 0
IsUnread content before after names Memory = Unit {0}
IsUnread content before after names ReadFault = HasRisen content before after names
IsUnread content before after names TooLong = IfTold content (λ shelf. is_any_long (bytes_of shelf names) ≡ true)
