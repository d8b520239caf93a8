-- Numbers of cycles without a limit, or infinity.
use Rattle.std.specs.Prelude.{ℕ, zero, suc, ◌+◌, ◌*◌, ◌≤◌, max, min, List, [], ◌∷◌}

pub data Extent : Type 0 where
  Finite : (cycles : ℕ) → Extent
  Infinite : Extent

abbrev pub plus : Extent → Extent → Extent
plus (Finite a) (Finite b) = Finite (a + b)
plus (Finite a) Infinite = Infinite
plus Infinite b = Infinite

abbrev pub greater : Extent → Extent → Extent
greater (Finite a) (Finite b) = Finite (max a b)
greater (Finite a) Infinite = Infinite
greater Infinite b = Infinite

abbrev pub lesser : Extent → Extent → Extent
lesser (Finite a) (Finite b) = Finite (min a b)
lesser (Finite a) Infinite = Finite a
lesser Infinite b = b

-- n times as much; 0 times infinity is 0
abbrev pub times : ℕ → Extent → Extent
times n (Finite a) = Finite (n * a)
times zero Infinite = Finite 0
times (suc n) Infinite = Infinite

-- for the executions there are: none cost nothing
abbrev pub if_any : (ℕ → Extent) → ℕ → Extent
if_any f zero = Finite 0
if_any f (suc n) = f (suc n)

abbrev pub total : List Extent → Extent
total [] = Finite 0
total (e ∷ es) = plus e (total es)

-- one is at most the other
abbrev pub IsWithin : ℕ → Extent → Type 0
IsWithin c (Finite a) = c ≤ a
IsWithin c Infinite = Unit {0}

-- order: infinity is above each number
abbrev pub IsAtMost : Extent → Extent → Type 0
IsAtMost a Infinite = Unit {0}
IsAtMost (Finite a) (Finite b) = a ≤ b
IsAtMost Infinite (Finite b) = ⊥
