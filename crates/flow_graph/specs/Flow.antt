-- The graph of blocks as a flow graph.
use Rattle.std.specs.Prelude.{ℕ, Bool, false, Option, Some, None, List, [], slice_get}
use Rattle.graph_search.specs.Flows.{Flow}
use Rattle.flow_graph.specs.declared.graph.Block.{Block}
use Rattle.flow_graph.specs.declared.graph.BlockGraph.{BlockGraph}

abbrev pub next_of : Option Block → List ℕ
next_of None = []
next_of (Some b) = b.next

abbrev pub returns_of : Option Block → Bool
returns_of None = false
returns_of (Some b) = b.returns

-- its nodes are the blocks by their numbers
abbrev pub flow_in : BlockGraph → Flow
flow_in g = record {
  count = g.block_count;
  entry = g.entry_block;
  next = λ b. next_of (slice_get g.blocks b);
  returns = λ b. returns_of
      (slice_get g.blocks b);
}
