-- That a run stays within the bounds of its loops.
use Rattle.std.specs.Prelude.{◌≡◌, ◌≢◌, ℕ, Some, slice_get, true, List, [], ◌∷◌, ◌++◌}
use Rattle.wsym_terms.specs.Extents.{Extent, IsWithin}
use Rattle.basic_blocks.specs.Blocks.{Chain}
use Rattle.interval_loops.specs.Counts.{count}
use Rattle.cycle_bounds.specs.Analyses.{Analysis, flow_of, points_at}

-- at each block of a walk, after others, the last of them first: no loop round it has closed more often since its last
-- entry than its bound says
abbrev pub CountsWithin : (ℕ → Extent) → Analysis → List ℕ → List ℕ → Type 0
CountsWithin bounds a bs [] = Unit {0}
CountsWithin bounds a bs (b ∷ rest) =
    ((c : ℕ) → c ≢ 0 → a.within c b ≡ true → IsWithin (count (flow_of a) c (b ∷ bs)) (bounds c))
    × CountsWithin bounds a (b ∷ bs) rest

abbrev pub points_along : Analysis → List ℕ → List ℕ
points_along a [] = []
points_along a (b ∷ bs) = points_at a b ++ points_along a bs

-- the number is a block's
abbrev pub IsListed : Analysis → ℕ → Type 0
IsListed a b = (x : Chain ℕ) × (slice_get a.blocks b ≡ Some x)
