-- Runs of blocks with the misses of their uses.
use Rattle.std.specs.Prelude.{◌≡◌, ℕ, ◌<◌, Bool, true, false, List, [], ◌∷◌, ◌++◌}
use Rattle.std.specs.List.{AllByRecursion}
use Rattle.fetch_timing.specs.declared.timing.Timing.{Timing}
use Rattle.interval_loops.specs.Loops.{LoopFlow}
use Rattle.interval_loops.specs.Trails.{Ran}
use Rattle.persistence.specs.BlockHistories.{IsHistory, finds, history}
use Rattle.persistence.specs.Younger.{AtLeast, Code, IsYounger}

-- The uses with a scope, by block and place: how many, the point of each, the points of the block before it and after
-- it, the last first, its scope and the loop of this depth.
pub record Uses : Type 0 where
  pub count : ℕ → ℕ
  pub point : ℕ → ℕ → ℕ
  pub before : ℕ → ℕ → List ℕ
  pub later : ℕ → ℕ → List ℕ
  pub scope : ℕ → ℕ → ℕ
  pub loop : ℕ → ℕ → ℕ

-- What scopes are: each use stands in its block, the block in the loop of the use's scope, and the use has fewer younger
-- lines than ways in the points of this loop, which has the points of its blocks.
pub record AreUses (t : Timing) (c : Code) (f : LoopFlow) (at : ℕ → ℕ) (reversed : ℕ → List ℕ) (points : ℕ → ℕ → Bool)
    (uses : Uses) : Type 0 where
  pub places : (b k : ℕ) → k < uses.count b → reversed b ≡ uses.later b k ++ uses.point b k ∷ uses.before b k
  pub around : (b k : ℕ) → k < uses.count b → f.within (uses.loop b k) b ≡ true
  pub deep : (b k : ℕ) → k < uses.count b → at (uses.loop b k) ≡ uses.scope b k
  pub few : (b k : ℕ) → k < uses.count b
      → AtLeast t.ways (IsYounger c t.sets (points (uses.loop b k)) (uses.point b k)) → ⊥
  pub whole : (d u : ℕ) → f.within d u ≡ true → AllByRecursion (λ x. points d x ≡ true) (reversed u)

-- A run of blocks after a history of blocks: its points lead one to the next, and a use is said to miss only where it
-- does.
abbrev pub IsRun : Timing → Code → (ℕ → List ℕ) → Uses → List (List ℕ) → List ℕ → List Ran → Type 0
IsRun t c reversed uses sets bs [] = Unit {0}
IsRun t c reversed uses sets bs (x ∷ xs) =
    IsHistory c.next (history reversed (x.block ∷ bs))
    × ((k : ℕ) → x.missed k ≡ true → (k < uses.count x.block)
    × (finds t sets c (uses.point x.block k) (uses.before x.block k ++ history reversed bs) ≡ false))
    × IsRun t c reversed uses sets (x.block ∷ bs) xs
