-- The levels of a function, and the edges of the flow graph in them.
use Rattle.std.specs.Prelude.{◌≡◌, ◌≢◌, ℕ, ◌+◌, ◌≤◌, ◌<◌, ◌⊎◌, Bool, true, false, if◌then◌else◌, nat_eq, List, Option}
use Rattle.std.specs.Prelude.{Some, None}
use Rattle.wsym_terms.specs.Trees.{greatest_scope}
use Rattle.interval_loops.specs.Loops.{Loops, node_in, child_in, LoopFlow}
use Rattle.tree_law.specs.Ways.{IsIn, Path}
use Rattle.tree_law.specs.Levels.{IsEnd, Nest}

-- Each edge of the flow is an edge of its levels.
pub record EdgesOf (l : Loops) (next : ℕ → ℕ → Bool) (within : ℕ → ℕ → Bool) (entry : ℕ) (ends : ℕ → Bool)
    (n : Nest) : Type 0 where
  pub turns : (c u v : ℕ) → within c u ≡ true → within c v ≡ true → next u v ≡ true → v ≡ l.header c → (n.level c).edge
      (node_in l c u) (n.level c).close ≡ true
  pub goes : (c u v : ℕ) → within c u ≡ true → within c v ≡ true → next u v ≡ true → v ≢ l.header c
      → node_in l c u ≢ node_in l c v → (n.level c).edge (node_in l c u) (node_in l c v) ≡ true
  pub leaves : (c u : ℕ) → within c u ≡ true → (ends u ≡ true) ⊎ ((v : ℕ) × (next u v ≡ true) × (within c v ≡ false)) →
      (n.level c).edge (node_in l c u) (n.level c).leave ≡ true
  pub first : (n.level 0).edge (n.level 0).header (node_in l 0 entry) ≡ true

-- An edge of a level, for what it is: from one node to another, to one of the ends, or from the start to the entry.
pub record Onward (l : Loops) (next within : ℕ → ℕ → Bool) (c p q : ℕ) : Type 0 where
  pub u : ℕ
  pub v : ℕ
  pub in_u : within c u ≡ true
  pub in_v : within c v ≡ true
  pub edge : next u v ≡ true
  pub no_turn : v ≢ l.header c
  pub apart : node_in l c u ≢ node_in l c v
  pub from : node_in l c u ≡ p
  pub to : node_in l c v ≡ q

abbrev pub IsLevelEdge : Loops → (ℕ → ℕ → Bool) → (ℕ → ℕ → Bool) → ℕ → ℕ → ℕ → ℕ → ℕ → ℕ → Type 0
IsLevelEdge l next within entry close leave c p q = Onward l next within c p q ⊎
    (((u : ℕ) × (within c u ≡ true) × (node_in l c u ≡ p) × ((q ≡ close) ⊎ (q ≡ leave))) ⊎
    ((c ≡ 0) × (p ≡ l.header 0) × (node_in l 0 entry ≡ q)))

-- the rank of a node of a level
abbrev pub level_rank : Loops → (ℕ → ℕ) → ℕ → ℕ → ℕ → ℕ → ℕ
level_rank l rank close leave top p = if nat_eq p close then top else
    (if nat_eq p leave then top else (if nat_eq p (l.header 0) then 0 else rank p + 1))

-- A walk of edges from one node to another.
abbrev pub Reaches : (ℕ → ℕ → Bool) → ℕ → ℕ → Type 0
Reaches edge a b = (us : List ℕ) × Path edge a us b

-- What the levels are: their edges are those of the flow, and for each end they list what lies on paths to it.
pub record AreLevels (l : Loops) (next within : ℕ → ℕ → Bool) (entry : ℕ) (at : ℕ → ℕ) (close leave : ℕ)
    (n : Nest) : Type 0 where
  pub headers : (c : ℕ) → (n.level c).header ≡ l.header c
  pub closes : (c : ℕ) → (n.level c).close ≡ close
  pub leaves : (c : ℕ) → (n.level c).leave ≡ leave
  pub children : (c v : ℕ) → n.child c v ≡ child_in l c v
  pub real : (c p q : ℕ) → (n.level c).edge p q ≡ true → IsLevelEdge l next within entry close leave c p q
  pub between : (c t u : ℕ) → IsEnd (n.level c) t → Reaches (n.level c).edge (n.level c).header u → Reaches
      (n.level c).edge u t → IsIn u ((n.level c).nodes t)
  pub only : (c t u : ℕ) → IsEnd (n.level c) t → IsIn u ((n.level c).nodes t) → Reaches (n.level c).edge
      (n.level c).header u × Reaches (n.level c).edge u t
  pub kept : (c t p q : ℕ) → IsEnd (n.level c) t → (n.level c).edge p q ≡ true → (p ≡ (n.level c).header) ⊎ Reaches
      (n.level c).edge (n.level c).header p → (q ≡ t) ⊎ Reaches (n.level c).edge q t → (n.level c).useful t p q ≡ true
  pub used : (c t p q : ℕ) → IsEnd (n.level c) t → (n.level c).useful t p q ≡ true → (n.level c).edge p q ≡ true
  pub block_uses : (b : ℕ) → within 0 b ≡ true → greatest_scope (n.uses b) ≤ at (l.inner b)
  pub header_uses : (c : ℕ) → greatest_scope (n.uses (l.header c)) ≤ at c
