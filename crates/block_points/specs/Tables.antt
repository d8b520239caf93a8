-- The tables of the numbered points of a graph.
use Rattle.std.specs.Prelude.{◌≡◌, ◌<◌, ℕ, Contains, List, Some, map, replicate, length, nat_eq, slice_get}
use Rattle.graph_search.specs.NodeLists.{holds}
use Rattle.graph_search.specs.Rows.{row_in}
use Rattle.fetch_timing.specs.declared.timing.Timing.{Timing}
use Rattle.fetch_timing.specs.Caches.{line_of}
use Rattle.fetch_timing.specs.Timings.{point_cost}
use Rattle.flow_graph.specs.declared.graph.Block.{Block}
use Rattle.block_points.specs.declared.tables.BlockPoints.{BlockPoints}
use Rattle.block_points.specs.Numbering.{firsts_from, joined, next_from, rows_from}

-- By number: each block's points; each point's block, cache line and greatest cost, what follows it and what it
-- follows.
pub record ArePoints (t : Timing) (bs : List Block) (p : BlockPoints) : Type 0 where
  pub rows : p.rows ≡ rows_from 0 bs
  pub home : p.home ≡ joined (λ k b. replicate (length b.points) k) 0 bs
  pub lines : p.lines ≡ joined (λ k b. map (λ x. line_of t x.address) b.points) 0 bs
  pub costs : p.costs ≡ joined (λ k b. map (λ x. point_cost t x.insn) b.points) 0 bs
  pub next : p.next ≡ next_from (firsts_from 0 bs) 0 bs
  pub size : length p.before ≡ length p.next
  pub before : (r q : ℕ) → holds nat_eq q (row_in p.next r) ≡ holds nat_eq r (row_in p.before q)

-- each block has points, and leads to blocks
pub record AreLinked (bs : List Block) : Type 0 where
  pub some : (j : ℕ) (b : Block) → slice_get bs j ≡ Some b → 0 < length b.points
  pub inside : (j k : ℕ) (b : Block) → slice_get bs j ≡ Some b → Contains b.next k → k < length bs
