-- A flow graph: nodes with numbers from 0 on, one of them the entry, successors, and the nodes from which control
-- leaves it.
use Rattle.std.specs.Prelude.{◌≡◌, ℕ, ◌<◌, ◌^◌, Bool, true, false, ◌&&◌, ◌==◌, nat_lt, List, length, slice_index_or}
use Rattle.std.specs.List.{list_any}
use Rattle.graph_search.specs.Rows.{row_in}

pub record Flow : Type 0 where
  pub count : ℕ
  pub entry : ℕ
  pub next : ℕ → List ℕ
  pub returns : ℕ → Bool

-- an edge leads from u to v
abbrev pub edge : Flow → ℕ → ℕ → Bool
edge flow u v = nat_lt u flow.count && list_any (λ x. x == v) (flow.next u)

-- edges that are given by a test
abbrev pub leads : (ℕ → ℕ → Bool) → ℕ → ℕ → Type 0
leads edged u v = edged u v ≡ true

-- each edge leads to a node, the entry is one, and numbers of nodes have 32 bits
pub record IsBounded (flow : Flow) : Type 0 where
  pub below : (u v : ℕ) → edge flow u v ≡ true → v < flow.count
  pub few : flow.count < 2 ^ 32
  pub starts : flow.entry < flow.count

-- a graph by a row of successors and a flag for each node
pub record GraphRows : Type 0 where
  pub rows : List (List ℕ)
  pub entry : ℕ
  pub returns : List Bool

abbrev pub flow_of : GraphRows → Flow
flow_of g = record {
  count = length g.rows;
  entry = g.entry;
  next = row_in g.rows;
  returns = λ node. slice_index_or
      g.returns node false;
}
