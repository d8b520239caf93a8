-- Nodes that are marked, of a number of nodes.
use Rattle.std.specs.Prelude.{◌≡◌, ℕ, ◌≤◌, List, nat_eq, slice_index_or}
use Rattle.graph_search.specs.NodeLists.{holds}

-- the marked nodes in the order in which they were marked, and the number of all nodes
pub record Marked : Type 0 where
  pub nodes : List ℕ
  pub count : ℕ

-- each node has the number of the round in which it was marked last: that of this round exactly at the marked ones
pub record AreStamps (stamps : List ℕ) (round : ℕ) (nodes : List ℕ) : Type 0 where
  pub some : 1 ≤ round
  pub exact : (q : ℕ) → nat_eq (slice_index_or stamps q 0) round ≡ holds nat_eq q nodes
  pub most : (q : ℕ) → slice_index_or stamps q 0 ≤ round
