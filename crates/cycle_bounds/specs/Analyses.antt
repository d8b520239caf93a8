-- What an analysis says of a function, by numbers: its points and blocks, their lines and uses, its loops and the
-- levels of its tree.
use Rattle.std.specs.Prelude.{◌≡◌, ℕ, zero, suc, Bool, true, slice_get, List, [], Option, Some, None}
use Rattle.std.specs.Prelude.{◌∷◌, length, map}
use Rattle.std.specs.List.{AllByRecursion}
use Rattle.fetch_timing.specs.declared.timing.Timing.{Timing}
use Rattle.wsym_terms.specs.declared.trees.Use.{Use}
use Rattle.control_flow.specs.Points.{Point}
use Rattle.control_flow.specs.Routes.{Goes, Leaves, Way}
use Rattle.basic_blocks.specs.Blocks.{AreBlocks, Chain, IsChain, last_of, points}
use Rattle.basic_blocks.specs.Chains.{mapped}
use Rattle.interval_loops.specs.Loops.{AreEnds, AreLoops, IsOrder, IsRound, LoopFlow, Loops, flow_with}
use Rattle.persistence.specs.Runs.{Uses}
use Rattle.persistence.specs.Spots.{Spot, base_of_points, spots, turned, uses_of_points}
use Rattle.persistence.specs.Younger.{Code, IsScope}
use Rattle.tree_law.specs.LevelEdges.{AreLevels, EdgesOf}
use Rattle.tree_law.specs.Levels.{Nest, scopes_of}

-- Points by number, and the blocks as chains of these numbers; the block of each point, its line and those that follow
-- it, and the scope of each use that has one; by the blocks' numbers the edges, the ends and which loop holds which
-- block; the loops, their depths and heights, the loop of each depth round a block, an order of the blocks, the ends of
-- the levels, and the levels with the leaves.
pub record Analysis : Type 0 where
  pub point : ℕ → Point
  pub blocks : List (Chain ℕ)
  pub block_of : ℕ → ℕ
  pub code : Code
  pub scope : ℕ → Option ℕ
  pub entry : ℕ
  pub next : ℕ → ℕ → Bool
  pub ends : ℕ → Bool
  pub within : ℕ → ℕ → Bool
  pub loops : Loops
  pub at : ℕ → ℕ
  pub height : ℕ → ℕ
  pub round : ℕ → ℕ → ℕ
  pub rank : ℕ → ℕ
  pub close : ℕ
  pub leave : ℕ
  pub top : ℕ
  pub nest : Nest

abbrev pub flow_of : Analysis → LoopFlow
flow_of a = flow_with a.loops a.next a.within a.ends a.entry

abbrev pub points_in : Option (Chain ℕ) → List ℕ
points_in None = []
points_in (Some b) = points b

abbrev pub points_at : Analysis → ℕ → List ℕ
points_at a b = points_in (slice_get a.blocks b)

-- the points of a block, the last first
abbrev pub reversed_of : Analysis → ℕ → List ℕ
reversed_of a b = turned (points_at a b) []

-- the uses of a block that have a scope
abbrev pub spots_of : Analysis → ℕ → List Spot
spots_of a b = spots a.code a.scope None [] (points_at a b)

abbrev pub spot_at : List Spot → ℕ → Spot
spot_at [] k = record { before = []; point = 0; later = [] }
spot_at (s ∷ ss) zero = s
spot_at (s ∷ ss) (suc k) = spot_at ss k

-- those that stand in the leaf of a block
abbrev pub uses_of : Analysis → ℕ → List Use
uses_of a b = uses_of_points a.code a.scope (points_at a b)

-- what a block costs at most each time, with a miss for each use without a scope
abbrev pub base_of : Timing → (Point → ℕ) → Analysis → ℕ → ℕ
base_of t most a b = base_of_points t.miss (λ p. most (a.point p)) a.code a.scope (points_at a b)

-- the same uses by block and place, each with the loop of its scope
abbrev pub all_uses : Analysis → Uses
all_uses a = record {
  count = λ b. length (spots_of a b);
  point = λ b k. (spot_at (spots_of a b) k).point;
  before = λ b k. (spot_at (spots_of a b) k).before;
  later = λ b k. (spot_at (spots_of a b) k).later;
  scope = scopes_of a.nest;
  loop = λ b k. a.round b (scopes_of a.nest b k);
}

-- What the numbers say of the ways: a cut into blocks, which way leads where, and each point's block and line.
pub record AreNumbers (ways : Point → List (Way Point)) (start : Point) (line : Point → ℕ) (a : Analysis) : Type 0
  where
    pub cut : AreBlocks ways start (map (mapped a.point) a.blocks)
    pub first : (i : ℕ) (b : Chain ℕ) → slice_get a.blocks i ≡ Some b → a.point b.first ≡ start → i ≡ a.entry
    pub inside : (i : ℕ) (b : Chain ℕ) → slice_get a.blocks i ≡ Some b → a.within 0 i ≡ true
    pub home : (i : ℕ) (b : Chain ℕ) → slice_get a.blocks i ≡ Some b
        → AllByRecursion (λ p. a.block_of p ≡ i) (points b)
    pub lines : (i : ℕ) (b : Chain ℕ) → slice_get a.blocks i ≡ Some b
        → AllByRecursion (λ p. a.code.line p ≡ line (a.point p)) (points b)
    pub steps : (i : ℕ) (b : Chain ℕ) → slice_get a.blocks i ≡ Some b
        → IsChain (λ p q. a.code.next p q ≡ true) b.first b.rest
    pub crosses : (i j : ℕ) (b c : Chain ℕ) → slice_get a.blocks i ≡ Some b → slice_get a.blocks j ≡ Some c
        → Goes ways (a.point (last_of b.first b.rest)) (a.point c.first)
        → (a.code.next (last_of b.first b.rest) c.first ≡ true) × (a.next i j ≡ true)
    pub leaves : (i : ℕ) (b : Chain ℕ) → slice_get a.blocks i ≡ Some b
        → Leaves ways (a.point (last_of b.first b.rest)) → a.ends i ≡ true

-- each scope is one: of fewer younger lines than the cache has ways, in the loop of this depth
abbrev pub AreScopes : Timing → Analysis → Type 0
AreScopes t a = (p d : ℕ) → a.scope p ≡ Some d
    → IsScope a.code t.sets t.ways (λ e q. a.within (a.round (a.block_of p) e) (a.block_of q))
    (a.at (a.loops.inner (a.block_of p))) p d

-- What an analysis promises of a function whose points have these ways, lines and costs.
pub record IsAnalysis (ways : Point → List (Way Point)) (start : Point) (line most : Point → ℕ) (t : Timing)
    (a : Analysis) : Type 0 where
  pub numbers : AreNumbers ways start line a
  pub scopes : AreScopes t a
  pub base : (b : ℕ) (c : Chain ℕ) → slice_get a.blocks b ≡ Some c → a.nest.base b ≡ base_of t most a b
  pub uses : (b : ℕ) (c : Chain ℕ) → slice_get a.blocks b ≡ Some c → a.nest.uses b ≡ uses_of a b
  pub are_loops : AreLoops a.loops a.next a.within a.entry a.at a.height
  pub are_round : IsRound (flow_of a) a.at a.round
  pub order : IsOrder a.loops a.next a.within a.entry a.rank
  pub apart : AreEnds a.loops a.within a.rank a.close a.leave a.top
  pub levels : AreLevels a.loops a.next a.within a.entry a.at a.close a.leave a.nest
  pub edges : EdgesOf a.loops a.next a.within a.entry a.ends a.nest
