-- Histories of blocks.
use Rattle.std.specs.Prelude.{ℕ, ◌%◌, Bool, List, [], ◌∷◌, ◌++◌, map}
use Rattle.fetch_timing.specs.declared.timing.Timing.{Timing}
use Rattle.fetch_timing.specs.Caches.{holds, lines_at}
use Rattle.persistence.specs.Fetches.{after_history}
use Rattle.persistence.specs.Younger.{Code, Linked}

-- the points of a history of blocks, the newest first; `reversed` has those of a block, the last first
abbrev pub history : (ℕ → List ℕ) → List ℕ → List ℕ
history reversed [] = []
history reversed (b ∷ bs) = reversed b ++ history reversed bs

-- each point leads to the one before it in the list
abbrev pub IsHistory : (ℕ → ℕ → Bool) → List ℕ → Type 0
IsHistory next [] = Unit {0}
IsHistory next (x ∷ h) = Linked next x h

-- whether a point's line is there after a history of points
abbrev pub finds : Timing → List (List ℕ) → Code → ℕ → List ℕ → Bool
finds t sets c p h = holds (c.line p) (lines_at (after_history t sets (map c.line h)) (c.line p % t.sets))
