-- The count of a loop along a history of blocks: its closing edges since its last entry, 0 before any entry. It goes by
-- the loop's number, so that it is also said of loops that were left.
use Rattle.std.specs.Prelude.{ℕ, ◌+◌, Bool, not, ◌&&◌, if◌then◌else◌, nat_eq, List, [], ◌∷◌}
use Rattle.interval_loops.specs.Loops.{LoopFlow}

-- from block u to block b: a closing edge of loop c
abbrev pub closes : LoopFlow → ℕ → ℕ → ℕ → Bool
closes f c u b = f.within c u && nat_eq b (f.header c)

-- an edge into loop c from outside
abbrev pub enters : LoopFlow → ℕ → ℕ → ℕ → Bool
enters f c u b = not (f.within c u) && f.within c b

-- the blocks that were visited, the last of them first
abbrev pub count : LoopFlow → ℕ → List ℕ → ℕ
count f c [] = 0
count f c (b ∷ []) = 0
count f c (b ∷ u ∷ bs) = if closes f c u b then count f c (u ∷ bs) + 1 else
    (if enters f c u b then 0 else count f c (u ∷ bs))
