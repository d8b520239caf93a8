-- Trails: the visits of a run with their stamps, and the loops that they are in.
use Rattle.std.specs.Prelude.{◌≡◌, ◌≢◌, ℕ, ◌+◌, ◌*◌, ◌<◌, ◌≤◌, ◌⊎◌, Bool, true, false, if◌then◌else◌, nat_eq, List, []}
use Rattle.std.specs.Prelude.{◌∷◌, length, Some, None}
use Rattle.wsym_terms.specs.Extents.{Extent, IsWithin}
use Rattle.interval_loops.specs.Trails.{Visit, Follows, Leaves}
use Rattle.tree_law.specs.Pieces.{misses}
use Rattle.interval_loops.specs.Loops.{LoopFlow}
use Rattle.tree_law.specs.Levels.{Nest}

-- a visit costs at most its block with its misses, and its loops turn no more than their bounds
pub record Paid (miss : ℕ) (bounds : ℕ → Extent) (n : Nest) (f : LoopFlow) (at : ℕ → ℕ) (v : Visit) : Type 0 where
  pub costs : v.spent ≤ n.base v.block + miss * misses (length (n.uses v.block)) v
  pub few : (c : ℕ) → f.within c v.block ≡ true → IsWithin (v.turns (at c)) (bounds c)

-- from a visit on in a loop until it is left
abbrev pub Stays : ℕ → (ℕ → Extent) → Nest → LoopFlow → (ℕ → ℕ) → ℕ → Visit → List Visit → Type 0
Stays miss bounds n f at c v [] = (f.within c v.block ≡ true) × Paid miss bounds n f at v × Leaves f c v.block
Stays miss bounds n f at c v (u ∷ w) = (f.within c v.block ≡ true) × Paid miss bounds n f at v × Follows f at v u
    × Stays miss bounds n f at c u w

-- What the levels say of the flow. Loop 0 is the whole function, and its header stands for the start.
pub record IsCut (n : Nest) (f : LoopFlow) (at height : ℕ → ℕ) : Type 0 where
  pub headers : (c : ℕ) → f.header c ≡ (n.level c).header
  pub lower : (c v d : ℕ) → n.child c v ≡ Some d → height d < height c
  pub deep : (c v d : ℕ) → n.child c v ≡ Some d → at d ≡ at c + 1
  pub own : (c b : ℕ) → f.within c b ≡ true → n.child c (f.node_at c b) ≡ None → f.node_at c b ≡ b
  pub inner : (c b d : ℕ) → f.within c b ≡ true → n.child c (f.node_at c b) ≡ Some d → f.within d b ≡ true
  pub outer : (c b u d : ℕ) → f.within c b ≡ true → f.within c u ≡ true → n.child c (f.node_at c u) ≡ Some d
      → f.node_at c b ≢ f.node_at c u → f.within d b ≡ false
  pub head : (c : ℕ) → f.within c (n.level c).header ≡ true → (f.node_at c (n.level c).header ≡ (n.level c).header) ×
      (n.child c (n.level c).header ≡ None)
  pub turns : (c u v : ℕ) → f.within c u ≡ true → f.within c v ≡ true → f.next u v ≡ true → v ≡ (n.level c).header →
      (n.level c).edge (f.node_at c u) (n.level c).close ≡ true
  pub goes : (c u v : ℕ) → f.within c u ≡ true → f.within c v ≡ true → f.next u v ≡ true → v ≢ (n.level c).header
      → f.node_at c u ≢ f.node_at c v → (n.level c).edge (f.node_at c u) (f.node_at c v) ≡ true
  pub no_self : (c u v : ℕ) → f.within c u ≡ true → f.within c v ≡ true → f.next u v ≡ true → v ≢ (n.level c).header
      → f.node_at c u ≡ f.node_at c v → n.child c (f.node_at c v) ≢ None
  pub by_header : (c u v d : ℕ) → f.within c u ≡ true → f.within c v ≡ true → f.next u v ≡ true
      → f.node_at c u ≢ f.node_at c v → n.child c (f.node_at c v) ≡ Some d → v ≡ (n.level d).header
  pub leaves : (c u : ℕ) → f.within c u ≡ true → Leaves f c u → (n.level c).edge (f.node_at c u) (n.level c).leave
      ≡ true
  pub nested : (c v d b : ℕ) → n.child c v ≡ Some d → f.within c b ≡ false → f.within d b ≡ false
  pub top : at 0 ≡ 0
  pub start : f.within 0 (n.level 0).header ≡ false
  pub first : (n.level 0).edge (n.level 0).header (f.node_at 0 f.entry) ≡ true
  pub first_header : (d : ℕ) → n.child 0 (f.node_at 0 f.entry) ≡ Some d → f.entry ≡ (n.level d).header

-- a trail of the whole function
pub record IsTrail (miss : ℕ) (bounds : ℕ → Extent) (n : Nest) (f : LoopFlow) (at : ℕ → ℕ) (v : Visit)
    (w : List Visit) : Type 0 where
  pub begins : v.block ≡ f.entry
  pub new : (d : ℕ) → v.turns d ≡ 0
  pub stays : Stays miss bounds n f at 0 v w
