-- The loops of a flow graph by their numbers, and an order of its blocks.
use Rattle.std.specs.Prelude.{◌≡◌, ◌≢◌, ℕ, ◌+◌, ◌≤◌, ◌<◌, Bool, true, false, if◌then◌else◌, nat_eq, Option, Some, None}

-- Loops by their numbers, from 1 on; 0 stands for the whole function. The header of each, the loop in which it lies,
-- the innermost loop round a block, and the loop next inside a loop that holds a block.
pub record Loops : Type 0 where
  pub header : ℕ → ℕ
  pub parent : ℕ → ℕ
  pub inner : ℕ → ℕ
  pub hold : ℕ → ℕ → ℕ

-- the block that stands for a block in a loop's own level: itself, or the header of the loop next inside that holds it
abbrev pub node_in : Loops → ℕ → ℕ → ℕ
node_in l c b = if nat_eq (l.inner b) c then b else l.header (l.hold c b)

-- the loop next inside loop c whose header v is
abbrev pub child_in : Loops → ℕ → ℕ → Option ℕ
child_in l c v =
    if nat_eq (l.inner v) 0 then None
    else (if nat_eq (l.parent (l.inner v)) c then (if nat_eq (l.header (l.inner v)) v then Some (l.inner v) else None)
    else None)

-- What loops are: entered at the header alone, one in another or apart, each with its depth (`at`).
pub record AreLoops (l : Loops) (next within : ℕ → ℕ → Bool) (entry : ℕ) (at height : ℕ → ℕ) : Type 0 where
  pub top : at 0 ≡ 0
  -- the start of the whole function is no block
  pub start : within 0 (l.header 0) ≡ false
  pub deeper : (d : ℕ) → d ≢ 0 → at d ≡ at (l.parent d) + 1
  pub lower : (d : ℕ) → d ≢ 0 → height d < height (l.parent d)
  -- a block of a loop is its own or stands in a loop next inside
  pub holds : (c b : ℕ) → within c b ≡ true → l.inner b ≢ c
      → (l.parent (l.hold c b) ≡ c) × (within (l.hold c b) b ≡ true) × (l.hold c b ≢ 0)
  pub held : (d b : ℕ) → d ≢ 0 → within d b ≡ true
      → (within (l.parent d) b ≡ true) × (l.inner b ≢ l.parent d) × (l.hold (l.parent d) b ≡ d)
  pub own : (d b : ℕ) → d ≢ 0 → within d b ≡ true → l.inner (l.header d) ≡ d
  -- an edge into a loop from outside goes to its header
  pub single : (d u v : ℕ) → d ≢ 0 → next u v ≡ true → within d u ≡ false → within d v ≡ true → v ≡ l.header d
  pub self : (u : ℕ) → next u u ≡ true → l.header (l.inner u) ≡ u
  pub entered : (d : ℕ) → d ≢ 0 → within d entry ≡ true → entry ≡ l.header d

-- An order of the blocks: each edge that closes no loop rises, and each block but the entry has such an edge into it.
pub record IsOrder (l : Loops) (next within : ℕ → ℕ → Bool) (entry : ℕ) (rank : ℕ → ℕ) : Type 0 where
  pub rises : (u v : ℕ) → next u v ≡ true → ((d : ℕ) → d ≢ 0 → within d u ≡ true → v ≢ l.header d) → rank u < rank v
  pub preceded : (b : ℕ) → within 0 b ≡ true → b ≢ entry → (a : ℕ) × (within 0 a ≡ true) × (next a b ≡ true) ×
      (rank a < rank b)
  pub whole : (d b : ℕ) → within d b ≡ true → within 0 b ≡ true

-- Two further numbers for where a turn ends and where a loop is left: neither is a block, nor the start.
pub record AreEnds (l : Loops) (within : ℕ → ℕ → Bool) (rank : ℕ → ℕ) (close leave top : ℕ) : Type 0 where
  pub no_close : within 0 close ≡ false
  pub no_leave : within 0 leave ≡ false
  pub start_close : l.header 0 ≢ close
  pub start_leave : l.header 0 ≢ leave
  pub bounded : (b : ℕ) → within 0 b ≡ true → rank b + 2 ≤ top
  pub has_header : (d b : ℕ) → d ≢ 0 → within d b ≡ true → within d (l.header d) ≡ true

-- A flow graph with its loops: its edges, where control leaves it, the entry, which block is in which loop, the node
-- that stands for a block in a loop's level, and each loop's header.
pub record LoopFlow : Type 0 where
  pub next : ℕ → ℕ → Bool
  pub ends : ℕ → Bool
  pub entry : ℕ
  pub within : ℕ → ℕ → Bool
  pub node_at : ℕ → ℕ → ℕ
  pub header : ℕ → ℕ

abbrev pub flow_with : Loops → (ℕ → ℕ → Bool) → (ℕ → ℕ → Bool) → (ℕ → Bool) → ℕ → LoopFlow
flow_with l next within ends entry =
    record { next = next; ends = ends; entry = entry; within = within; node_at = node_in l; header = l.header }

-- the loop of a depth round a block
pub record IsRound (f : LoopFlow) (at : ℕ → ℕ) (round : ℕ → ℕ → ℕ) : Type 0 where
  pub own : (c b : ℕ) → f.within c b ≡ true → round b (at c) ≡ c
  pub outer : (c u v d : ℕ) → f.within c u ≡ true → f.within c v ≡ true → d ≤ at c → f.within (round v d) u ≡ true
