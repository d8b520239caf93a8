use Rattle.std.specs.Prelude.{ℕ, ◌/◌, ◌%◌, ◌^◌, ◌==◌, Bool}

-- the number in the `count` bits of a word from bit `low` upward
abbrev pub field : ℕ → ℕ → ℕ → ℕ
field word low count = (word / 2 ^ low) % 2 ^ count

-- whether a bit of the word is 1
abbrev pub flag : ℕ → ℕ → Bool
flag word place = field word place 1 == 1
