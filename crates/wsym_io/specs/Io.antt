-- What a shelf holds, what a sink holds, and what it means that a count of faults rose.
use Rattle.std.specs.Prelude.{◌≡◌, ℕ, ◌+◌, ◌-◌, ◌^◌, ◌≤◌, min, Bool, true, false, if◌then◌else◌, Option, Some, None, List, [], ◌∷◌, ◌++◌, length, take}
use Rattle.std.specs.Str.{bytes_eq}

-- a file of a shelf: the bytes of its name, and its content
pub record File : Type 0 where
  pub name : List ℕ
  pub bytes : List ℕ

-- the bytes of the first file of that name, or none where there is none
abbrev pub file_bytes : List File → List ℕ → List ℕ
file_bytes [] name = []
file_bytes (file ∷ files) name = if bytes_eq file.name name then file.bytes else file_bytes files name

-- whether some file has that name
abbrev pub has_file : List File → List ℕ → Bool
has_file [] name = false
has_file (file ∷ files) name = if bytes_eq file.name name then true else has_file files name

-- a count of faults after one more: it stays at the last value of 64 bits
abbrev pub raised : ℕ → ℕ
raised count = min (count + 1) (2 ^ 64 - 1)

-- the count rose, or stands at its last value, from where it can't rise
abbrev pub Rose : ℕ → ℕ → Type 0
Rose before now = min (before + 1) (2 ^ 64 - 1) ≤ now

-- what a sink holds once a piece is appended; one that doesn't say what it holds still doesn't
abbrev pub appended : Option (List ℕ) → List ℕ → Option (List ℕ)
appended None piece = None
appended (Some bytes) piece = Some (bytes ++ piece)

-- some first bytes of the text were appended, perhaps none or all, and nothing else
abbrev pub AppendsFront : Option (List ℕ) → Option (List ℕ) → List ℕ → Type 0
AppendsFront old new text = (n : ℕ) × (n ≤ length text) × (new ≡ appended old (take n text))

-- the fact for what is told, and nothing where it isn't told
abbrev pub IfTold : {A : Type 0} → Option A → (A → Type 0) → Type 0
IfTold None P = Unit {0}
IfTold (Some a) P = P a
