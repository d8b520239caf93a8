-- The nest of the loops of a graph.
use Rattle.std.specs.Prelude.{◌<◌, ◌≡◌, ◌↔◌, ℕ, zero, suc, ◌-◌, Bool, true, if◌then◌else◌, nat_eq, nat_lt, Option, Some}
use Rattle.std.specs.Prelude.{None, slice_get, slice_index_or, List, length, map}
use Rattle.graph_search.specs.NodeLists.{holds}
use Rattle.graph_search.specs.Flows.{Flow}
use Rattle.graph_reduction.specs.Reduction.{State, IsReduced}
use Rattle.interval_loops.specs.declared.nest.LoopInfo.{LoopInfo}
use Rattle.interval_loops.specs.declared.nest.LoopNest.{LoopNest}
use Rattle.interval_loops.specs.Rounds.{last_or, RisesOpen, AreRound, loops_by}
use Rattle.graph_search.specs.Orders.{Rising}
use Rattle.interval_loops.specs.Loops.{Loops}
use Rattle.graph_search.specs.Rows.{row_in}
use Rattle.interval_loops.specs.Tables.{IsHeader}

abbrev pub before_last : List ℕ → ℕ
before_last xs = if nat_lt (length xs) 2 then 0 else slice_index_or xs (length xs - 2) 0

abbrev pub info_of : ℕ → List ℕ → List ℕ → LoopInfo
info_of header closing round = record {
  header = header;
  parent = before_last round;
  depth = length round;
  closing =
      closing;
}

abbrev pub infos_of : List ℕ → List (List ℕ) → List (List ℕ) → List LoopInfo
infos_of headers closers around = map (λ h. info_of h (row_in closers h) (row_in around h)) headers

abbrev pub nest_by : List ℕ → List (List ℕ) → List (List ℕ) → LoopNest
nest_by headers closers around = record {
  loops = infos_of headers closers around;
  innermost = map
      (last_or 0) around;
  around = around;
}

-- ---- what a nest says of a number and of a block

abbrev pub header_or : ℕ → Option LoopInfo → ℕ
header_or start None = start
header_or start (Some i) = i.header

abbrev pub parent_or : Option LoopInfo → ℕ
parent_or None = 0
parent_or (Some i) = i.parent

abbrev pub depth_or : Option LoopInfo → ℕ
depth_or None = 1
depth_or (Some i) = i.depth

-- of the whole function and of numbers of no loop the header is the number of blocks, which is no block
abbrev pub header_of : Flow → LoopNest → ℕ → ℕ
header_of flow n zero = flow.count
header_of flow n (suc d) = header_or flow.count (slice_get n.loops d)

abbrev pub parent_of : LoopNest → ℕ → ℕ
parent_of n zero = 0
parent_of n (suc d) = parent_or (slice_get n.loops d)

abbrev pub depth_of : LoopNest → ℕ → ℕ
depth_of n zero = 0
depth_of n (suc d) = depth_or (slice_get n.loops d)

abbrev pub inner_of : LoopNest → ℕ → ℕ
inner_of n b = slice_index_or n.innermost b 0

abbrev pub around_of : LoopNest → ℕ → List ℕ
around_of n b = row_in n.around b

-- each loop's header and closing edges, by number
pub record AreLoopsOf (closed : ℕ → ℕ → Bool) (n : LoopNest) : Type 0 where
  pub headers : (h : ℕ) → (holds nat_eq h (map (λ i. i.header) n.loops) ≡ true) ↔ IsHeader closed h
  pub ascending : Rising (λ h. h) (map (λ i. i.header) n.loops)
  pub closing : (d : ℕ) (i : LoopInfo) → slice_get n.loops d ≡ Some i →
      ((u : ℕ) → holds nat_eq u i.closing ≡ closed u i.header) × Rising (λ u. u) i.closing

pub record IsNestIn (flow : Flow) (s : State) (rank : ℕ → ℕ) (n : LoopNest) : Type 0 where
  pub reduced : IsReduced flow s
  pub rises : RisesOpen flow s.closed rank
  pub ranks : (b : ℕ) → b < flow.count → rank b < flow.count
  pub sizes : (length n.innermost ≡ flow.count) × (length n.around ≡ flow.count)
  pub loops : AreLoopsOf s.closed n
  pub round : AreRound flow s.closed rank (header_of flow n) (parent_of n) (inner_of n) (depth_of n) (around_of n) 16

-- the nest of a graph that is reduced to no open cycle, with no more than sixteen loops round a block
abbrev pub IsNestOf : Flow → LoopNest → Type 0
IsNestOf flow n = (s : State) × (rank : ℕ → ℕ) × IsNestIn flow s rank n

-- the loops of the law on trees
abbrev pub loops_of : Flow → LoopNest → Loops
loops_of flow n = loops_by (header_of flow n) (parent_of n) (inner_of n) (around_of n)
