-- Offsets from where r13 pointed at the start as signed numbers, beside those modulo 2^32 of the table.
use Rattle.std.specs.Prelude.{◌≡◌, ◌⊎◌, ℕ, ℤ, pos, ◌+ℤ◌, ◌*◌, ◌^◌, ◌&&◌, int_lt, Bool}

-- the number stands for the offset modulo 2^32
abbrev pub StandsFor : ℕ → ℤ → Type 0
StandsFor e z = (pos e ≡ z) ⊎ (pos e ≡ z +ℤ pos (2 ^ 32))

-- some of the bytes from a signed offset on stand in the word
abbrev pub touches_at : ℤ → ℕ → ℕ → Bool
touches_at z bytes k = int_lt (pos 0) (z +ℤ pos (4 * k) +ℤ pos bytes) && int_lt (z +ℤ pos (4 * k)) (pos 4)
