-- A run by its visits of blocks: the points that each passes, what it spends, and which of its uses miss.
use Rattle.std.specs.Prelude.{◌≡◌, ℕ, zero, suc, ◌+◌, not, Bool, false, if◌then◌else◌, Some, slice_get, List, [], ◌∷◌}
use Rattle.std.specs.Prelude.{◌++◌, map}
use Rattle.fetch_timing.specs.declared.timing.Timing.{Timing}
use Rattle.control_flow.specs.Points.{Point}
use Rattle.control_flow.specs.Routes.{Goes, Leaves, Taken, Way}
use Rattle.basic_blocks.specs.Blocks.{Chain, last_of, points}
use Rattle.persistence.specs.BlockHistories.{finds, history}
use Rattle.persistence.specs.Spots.{Spot}
use Rattle.persistence.specs.Younger.{Code}
use Rattle.interval_loops.specs.Trails.{Ran}
use Rattle.cycle_bounds.specs.Analyses.{Analysis, reversed_of, spots_of}

-- a visit of a block, with the points that it passed, done or skipped
pub record Passed : Type 0 where
  pub block : ℕ
  pub chain : Chain ℕ
  pub taken : List (Taken ℕ)

abbrev pub numbers_of : List (Taken ℕ) → List ℕ
numbers_of w = map (λ (x : Taken ℕ). x.point) w

abbrev pub named : (ℕ → Point) → Taken ℕ → Taken Point
named point x = record { point = point x.point; done = x.done }

abbrev pub all_taken : List Passed → List (Taken ℕ)
all_taken [] = []
all_taken (x ∷ xs) = x.taken ++ all_taken xs

abbrev pub IsPassed : Analysis → Passed → Type 0
IsPassed a x = (slice_get a.blocks x.block ≡ Some x.chain) × (numbers_of x.taken ≡ points x.chain)

-- each visit leads to the next, and the last out of the function
abbrev pub ArePassed : (Point → List (Way Point)) → Analysis → Passed → List Passed → Type 0
ArePassed ways a x [] = IsPassed a x × Leaves ways (a.point (last_of x.chain.first x.chain.rest))
ArePassed ways a x (y ∷ ys) =
    IsPassed a x × Goes ways (a.point (last_of x.chain.first x.chain.rest)) (a.point y.chain.first)
    × ArePassed ways a y ys

-- the cycles of some points after a history of points, the newest first
abbrev pub cycles : (Point → Bool → ℕ) → Timing → List (List ℕ) → Analysis → List ℕ → List (Taken ℕ) → ℕ
cycles cost t sets a h [] = 0
cycles cost t sets a h (x ∷ xs) =
    (cost (a.point x.point) x.done + (if finds t sets a.code x.point h then 0 else t.miss))
    + cycles cost t sets a (x.point ∷ h) xs

-- whether the use at a place misses
abbrev pub missed_in : Timing → List (List ℕ) → Code → List ℕ → List Spot → ℕ → Bool
missed_in t sets c h [] k = false
missed_in t sets c h (s ∷ ss) zero = not (finds t sets c s.point (s.before ++ h))
missed_in t sets c h (s ∷ ss) (suc k) = missed_in t sets c h ss k

abbrev pub ran_of : (Point → Bool → ℕ) → Timing → List (List ℕ) → Analysis → List ℕ → Passed → Ran
ran_of cost t sets a h x = record {
  block = x.block;
  spent = cycles cost t sets a h x.taken;
  missed = missed_in t sets a.code h (spots_of a x.block);
}

-- what ran, after the visits of some blocks, the last first
abbrev pub rans : (Point → Bool → ℕ) → Timing → List (List ℕ) → Analysis → List ℕ → List Passed → List Ran
rans cost t sets a bs [] = []
rans cost t sets a bs (x ∷ xs) =
    ran_of cost t sets a (history (reversed_of a) bs) x ∷ rans cost t sets a (x.block ∷ bs) xs
