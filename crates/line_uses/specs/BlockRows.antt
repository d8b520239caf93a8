-- Tables that come from a flow graph of blocks with its nest of loops, and the points of each block in order.
use Rattle.std.specs.Prelude.{◌≡◌, ℕ, ◌<◌, ◌^◌, true, List, [], ◌∷◌, nat_eq, length}
use Rattle.graph_search.specs.NodeLists.{holds}
use Rattle.graph_search.specs.Rows.{row_in}
use Rattle.graph_search.specs.Flows.{Flow, edge}
use Rattle.interval_loops.specs.declared.nest.LoopNest.{LoopNest}
use Rattle.interval_loops.specs.Rounds.{first_or, last_or}
use Rattle.line_uses.specs.PointMaps.{PointMaps, block_of}

-- each point leads to the next
abbrev pub Leading : (ℕ → ℕ → Type 0) → ℕ → List ℕ → Type 0
Leading R p [] = Unit {0}
Leading R p (q ∷ qs) = R p q × Leading R q qs

abbrev pub IsSequence : (ℕ → ℕ → Type 0) → List ℕ → Type 0
IsSequence R [] = ⊥
IsSequence R (p ∷ ps) = Leading R p ps

-- from point to point along the tables
abbrev pub Leads : PointMaps → ℕ → ℕ → Type 0
Leads m p q = holds nat_eq p (row_in m.before q) ≡ true

pub record AreBlockRows (flow : Flow) (n : LoopNest) (rows : List (List ℕ)) (m : PointMaps) : Type 0 where
  pub around : m.around ≡ n.around
  pub forth : (r q : ℕ) → holds nat_eq q (row_in m.next r) ≡ holds nat_eq r (row_in m.before q)
  pub below : (r q : ℕ) → holds nat_eq q (row_in m.before r) ≡ true → q < length m.before
  pub homes : length m.home ≡ length m.before
  pub count : length m.home < 2 ^ 32
  pub blocks : (q : ℕ) → q < length m.home → block_of m q < flow.count
  -- each point stands in its block's row, and nothing else does
  pub there : (q : ℕ) → q < length m.home → holds nat_eq q (row_in rows (block_of m q)) ≡ true
  pub own : (b q : ℕ) → b < flow.count → holds nat_eq q (row_in rows b) ≡ true → block_of m q ≡ b
  -- along a block each point leads to the next, and its last to the first of each block that follows
  pub along : (b : ℕ) → b < flow.count → IsSequence (Leads m) (row_in rows b)
  pub across : (b c : ℕ) → edge flow b c ≡ true → Leads m (last_or 0 (row_in rows b)) (first_or 0 (row_in rows c))
