-- The numbered points of a graph's blocks, beside the blocks as chains of points.
use Rattle.std.proofs.Common.{◌≡◌, inl, inr, ℕ, zero, suc, ◌+◌, ◌-◌, ◌<◌, List, [], ◌∷◌, ◌++◌, length, map, get_or, refl, sym, ap, ◌∙◌}
use Rattle.std.proofs.Common.{subst}
use Rattle.std.proofs.Common.{true, Bool, arith}
use Rattle.std.specs.Prelude.{Option, Some, Contains, slice_get, slice_index_or, nat_eq, replicate}
use Rattle.std.specs.List.{AllByRecursion}
use Rattle.arm_isa.specs.declared.instruction.Insn.{Insn}
use Rattle.fetch_timing.specs.declared.timing.Timing.{Timing}
use Rattle.fetch_timing.specs.Caches.{line_of}
use Rattle.fetch_timing.specs.Timings.{point_cost}
use Rattle.graph_search.specs.NodeLists.{holds}
use Rattle.graph_search.specs.Rows.{row_in}
use Rattle.graph_search.proofs.ListLemmas.{holds_first, holds_right, nat_equality}
use Rattle.function_points.proofs.MemberLemmas.{first_or_rest, here, in_none, there}
use Rattle.basic_blocks.proofs.NumberLemmas.{map_in}
use Rattle.std.proofs.lemmas.List.{map-append}
use Rattle.control_flow.specs.Points.{Point, entry_point}
use Rattle.control_flow.specs.Routes.{Goes, Leaves, Way}
use Rattle.basic_blocks.specs.Blocks.{Chain, IsChain, last_of, points}
use Rattle.basic_blocks.specs.Chains.{mapped}
use Rattle.flow_graph.specs.declared.graph.Block.{Block}
use Rattle.flow_graph.specs.declared.graph.GraphPoint.{GraphPoint}
use Rattle.flow_graph.specs.declared.graph.BlockGraph.{BlockGraph}
use Rattle.flow_graph.specs.Graphs.{IsGraphBy, graph_point, graph_points, returns_in}
use Rattle.interval_loops.specs.declared.nest.LoopNest.{LoopNest}
use Rattle.line_uses.specs.PointMaps.{block_of, code_of}
use Rattle.block_points.specs.declared.tables.BlockPoints.{BlockPoints}
use Rattle.block_points.specs.Numbering.{all_points, first_of, firsts_at, firsts_from, following, joined, numbers_from, rows_from}
use Rattle.block_points.specs.Tables.{ArePoints}
use Rattle.block_points.proofs.PlaceLemmas.{first_is, following_inner, following_last, joined_at, next_at, row_at}
use Rattle.graph_analyses.specs.GraphAnalyses.{chain_of, maps_of, point_at}
use Rattle.graph_analyses.proofs.NumberLemmas.{all_numbers, chain_numbers, inside_at, item_at, last_number, lists_agree, map_at, map_length}
use Rattle.graph_analyses.proofs.NumberLemmas.{mapped_at, no_item, numbers_mapped, some_item, there_at}

-- ---- the chain of a block's numbers

-- the numbers of a block that has points
pub numbers_of : List Block → ℕ → Block → List ℕ
numbers_of bs i b = numbers_from (first_of bs i) (length b.points)

pub rows_length : (bs : List Block) (i : ℕ) → length (rows_from i bs) ≡ length bs
rows_length [] i = refl
rows_length (x ∷ bs) i = ap suc (rows_length bs (i + length x.points))

-- the row of a block as an item
pub row_there : (bs : List Block) (i j : ℕ) (b : Block) → slice_get bs j ≡ Some b
    → slice_get (rows_from i bs) j ≡ Some (numbers_from (i + first_of bs j) (length b.points))
row_there bs i j b e =
    let lt : j < length (rows_from i bs) = (let inside = inside_at bs j b e in let size = rows_length bs i in omega (arith, inside, size))
    in
    let r = there_at (rows_from i bs) j lt in
    r.1 ∙ ap (λ (row : List ℕ). Some row) (sym (item_at (rows_from i bs) j r.0 [] r.1) ∙ row_at bs i j b e)

chain_points : (f n : ℕ) → 0 < n → points (chain_of (numbers_from f n)) ≡ numbers_from f n
chain_points f zero lt = absurd (omega (arith, lt))
chain_points f (suc n) lt = refl

chain_mapped : (point : ℕ → Point) (c : Chain ℕ) → points (mapped point c) ≡ map point (points c)
chain_mapped point c = refl

same_chain : (c d : Chain Point) → points c ≡ points d → c ≡ d
same_chain c d e = (λ j. record { first = first j; rest = rest j })
  where
    first : c.first ≡ d.first
    first = heads c.first d.first c.rest d.rest e
      where
        heads : (x y : Point) (xs ys : List Point) → x ∷ xs ≡ y ∷ ys → x ≡ y
        heads x y xs ys e = cc

    rest : c.rest ≡ d.rest
    rest = tails c.first d.first c.rest d.rest e
      where
        tails : (x y : Point) (xs ys : List Point) → x ∷ xs ≡ y ∷ ys → xs ≡ ys
        tails x y xs ys e = cc

pub contained : {A : Type 0} (xs : List A) (k : ℕ) (x : A) → slice_get xs k ≡ Some x → Contains xs x
contained [] k x e = absurd (no_item x e)
contained (y ∷ xs) zero x e = subst (λ z. Contains (y ∷ xs) z) (some_item y x e) (here y xs)
contained (y ∷ xs) (suc k) x e = there y x xs (contained xs k x e)

contains_holds : (x : ℕ) (xs : List ℕ) → Contains xs x → holds nat_eq x xs ≡ true
contains_holds x [] i = absurd (in_none x i)
contains_holds x (y ∷ xs) i =
    elim (first_or_rest y x xs i) as (λ _. holds nat_eq x (y ∷ xs) ≡ true) [
      | inl e ↦ subst (λ (z : ℕ). holds nat_eq z (y ∷ xs) ≡ true) e (holds_first ℕ nat_equality y xs)
      | inr n ↦ holds_right ℕ nat_equality x (y ∷ []) xs (contains_holds x xs n)
    ]

module _ (ways : Point → List (Way Point)) (insns : ℕ → Option Insn) (start : Point) (g : BlockGraph)
    (is : IsGraphBy ways insns start g) where
  abbrev lists : List (List ℕ)
  lists = returns_in g.contexts

  -- the point with a number of a block
  pub point_of : (i k : ℕ) (b : Block) → slice_get g.blocks i ≡ Some b → k < length b.points
      → point_at g (first_of g.blocks i + k) ≡ slice_index_or (graph_points lists b.points) k (entry_point g.entry)
  point_of i k b e lt =
      ap (λ (ps : List Point). get_or ps (first_of g.blocks i + k) (entry_point g.entry)) (joined_map g.blocks 0)
      ∙ joined_at (λ m x. graph_points lists x.points) (λ m x. map_length (graph_point lists) x.points) g.blocks 0 i k b
      (entry_point g.entry) e lt
    where
      joined_map : (bs : List Block) (m : ℕ)
          → graph_points lists (joined (λ k x. x.points) m bs) ≡ joined (λ k x. graph_points lists x.points) m bs
      joined_map [] m = refl
      joined_map (x ∷ bs) m =
          map-append (graph_point lists) x.points (joined (λ k y. y.points) (m + 1) bs)
          ∙ ap (λ (ps : List Point). graph_points lists x.points ++ ps) (joined_map bs (m + 1))

  -- a block with its chain of points
  pub record Both (i : ℕ) : Type 0 where
    pub block : Block
    pub chain : Chain Point
    pub there : slice_get g.blocks i ≡ Some block
    pub found : slice_get is.chains i ≡ Some chain
    pub same : graph_points lists block.points ≡ points chain
    pub some : 0 < length block.points

  pub chains_size : length g.blocks ≡ length is.chains
  chains_size = sym (map_length (λ (b : Block). graph_points lists b.points) g.blocks) ∙ ap length is.cut
      ∙ map_length (λ (c : Chain Point). points c) is.chains

  pub both_at : (i : ℕ) → i < length g.blocks → Both i
  both_at i lt =
      let b = there_at g.blocks i lt in
      let s = chains_size in
      let c = there_at is.chains i (omega (arith, lt, s)) in
      let same : graph_points lists (b.0).points ≡ points c.0 =
      some_item (graph_points lists (b.0).points) (points c.0)
      (sym (map_at (λ (x : Block). graph_points lists x.points) g.blocks i b.0 b.1)
      ∙ ap (λ (xs : List (List Point)). slice_get xs i) is.cut
      ∙ map_at (λ (x : Chain Point). points x) is.chains i c.0 c.1) in
      let size = sym (map_length (graph_point lists) (b.0).points) ∙ ap length same in
      record { block = b.0; chain = c.0; there = b.1; found = c.1; same = same; some = omega (arith, size) }

  module _ (t : Timing) (n : LoopNest) (p : BlockPoints) (are : ArePoints t g.blocks p) where
    -- the chain of numbers of a block
    pub record Numbered (i : ℕ) (c : Chain ℕ) : Type 0 where
      pub both : Both i
      pub first : c.first ≡ first_of g.blocks i
      pub rest : c.rest ≡ numbers_from (first_of g.blocks i + 1) (length both.block.points - 1)
      pub numbers : points c ≡ numbers_from (first_of g.blocks i) (length both.block.points)
      pub chain : mapped (point_at g) c ≡ both.chain
      pub listed : i < length g.blocks

    parts : (f n : ℕ) → 0 < n → (chain_of (numbers_from f n)).rest ≡ numbers_from (f + 1) (n - 1)
    parts f zero lt = absurd (omega (arith, lt))
    parts f (suc n) lt = (let e : n ≡ suc n - 1 = omega arith in ap (numbers_from (f + 1)) e)

    firsts : (f n : ℕ) → 0 < n → (chain_of (numbers_from f n)).first ≡ f
    firsts f zero lt = absurd (omega (arith, lt))
    firsts f (suc n) lt = refl

    numbered_by : (i : ℕ) → (lt : i < length g.blocks)
        → Numbered i (chain_of (numbers_from (first_of g.blocks i) (length (both_at i lt).block.points)))
    numbered_by i lt =
        let b = both_at i lt in
        let f = first_of g.blocks i in
        let ps = chain_points f (length b.block.points) b.some in
        record {
          both = b;
          first = firsts f (length b.block.points) b.some;
          rest = parts f (length b.block.points) b.some;
          numbers = ps;
          chain = same_chain (mapped (point_at g) (chain_of (numbers_from f (length b.block.points)))) b.chain
              (ap (map (point_at g)) ps
              ∙ ap (λ (m : ℕ). map (point_at g) (numbers_from f m)) (sym (map_length (graph_point lists) b.block.points))
              ∙ numbers_mapped (point_at g) (entry_point g.entry) f (graph_points lists b.block.points)
              (λ k low. point_of i k b.block b.there (let s = map_length (graph_point lists) b.block.points in omega (arith, low, s)))
              ∙ b.same);
          listed = lt;
        }

    pub numbered : (i : ℕ) (c : Chain ℕ) → slice_get (map chain_of p.rows) i ≡ Some c → Numbered i c
    numbered i c e =
        let row = mapped_at chain_of p.rows i c e in
        let rows : slice_get (rows_from 0 g.blocks) i ≡ Some row.0 = ap (λ (xs : List (List ℕ)). slice_get xs i) (sym are.rows) ∙ row.1 in
        let lt : i < length g.blocks =
        (let inside = inside_at (rows_from 0 g.blocks) i row.0 rows in let s = rows_length g.blocks 0 in omega (arith, inside, s)) in
        let b = both_at i lt in
        let zero_first : 0 + first_of g.blocks i ≡ first_of g.blocks i = omega arith in
        let is_row : numbers_from (first_of g.blocks i) (length b.block.points) ≡ row.0 =
        ap (λ (m : ℕ). numbers_from m (length b.block.points)) (sym zero_first)
        ∙ some_item (numbers_from (0 + first_of g.blocks i) (length b.block.points)) row.0
        (sym (row_there g.blocks 0 i b.block b.there) ∙ rows) in
        subst (Numbered i) (ap chain_of is_row ∙ row.2) (numbered_by i lt)

    chains_length : length (map (mapped (point_at g)) (map chain_of p.rows)) ≡ length is.chains
    chains_length =
        map_length (mapped (point_at g)) (map chain_of p.rows) ∙ map_length chain_of p.rows ∙ ap length are.rows ∙ rows_length g.blocks 0
        ∙ chains_size

    -- the chains of numbers are those of points
    pub cut_is : map (mapped (point_at g)) (map chain_of p.rows) ≡ is.chains
    cut_is = lists_agree (map (mapped (point_at g)) (map chain_of p.rows)) is.chains chains_length agree
      where
        agree : (i : ℕ) (x y : Chain Point) → slice_get (map (mapped (point_at g)) (map chain_of p.rows)) i ≡ Some x
            → slice_get is.chains i ≡ Some y
            → x ≡ y
        agree i x y e f =
            let c = mapped_at (mapped (point_at g)) (map chain_of p.rows) i x e in
            let r = numbered i c.0 c.1 in
            sym c.2 ∙ r.chain ∙ some_item r.both.chain y (sym r.both.found ∙ f)

    -- ---- what the tables say of a block's numbers

    pub all_home : (i : ℕ) (b : Block) → slice_get g.blocks i ≡ Some b
        → AllByRecursion (λ q. block_of (maps_of n p) q ≡ i) (numbers_from (first_of g.blocks i) (length b.points))
    all_home i b e =
        all_numbers (λ q. block_of (maps_of n p) q ≡ i) (first_of g.blocks i) (length b.points)
        (λ k lt. ap (λ (xs : List ℕ). slice_index_or xs (first_of g.blocks i + k) (length n.around)) are.home
        ∙ joined_at (λ m x. replicate (length x.points) m) (λ m x. replicated (length x.points) m) g.blocks 0 i k b (length n.around) e lt
        ∙ same_number i k (length b.points) lt)
      where
        replicated : (m k : ℕ) → length (replicate m k) ≡ m
        replicated zero k = refl
        replicated (suc m) k = ap suc (replicated m k)

        at_replicated : (m k x d : ℕ) → k < m → slice_index_or (replicate m x) k d ≡ x
        at_replicated zero k x d lt = absurd (omega (arith, lt))
        at_replicated (suc m) zero x d lt = refl
        at_replicated (suc m) (suc k) x d lt = at_replicated m k x d (omega (arith, lt))

        same_number : (i k m : ℕ) → k < m → slice_index_or (replicate m (0 + i)) k (length n.around) ≡ i
        same_number i k m lt = (let e : 0 + i ≡ i = omega arith in at_replicated m k (0 + i) (length n.around) lt ∙ e)

    -- the address and the instruction of a numbered point
    pub point_here : (i k : ℕ) (b : Block) → slice_get g.blocks i ≡ Some b → k < length b.points
        → (x : GraphPoint) × (slice_get b.points k ≡ Some x) × (point_at g (first_of g.blocks i + k) ≡ graph_point lists x)
    point_here i k b e lt =
        let x = there_at b.points k lt in (
          x.0,
          x.1,
          point_of i k b e lt ∙ item_at (graph_points lists b.points) k (graph_point lists x.0) (entry_point g.entry)
              (map_at (graph_point lists) b.points k x.0 x.1),
        )

    pub line_here : (i k : ℕ) (b : Block) → slice_get g.blocks i ≡ Some b → k < length b.points
        → slice_index_or p.lines (first_of g.blocks i + k) 0 ≡ line_of t (point_at g (first_of g.blocks i + k)).address
    line_here i k b e lt =
        let x = point_here i k b e lt in
        ap (λ (xs : List ℕ). slice_index_or xs (first_of g.blocks i + k) 0) are.lines
        ∙ joined_at (λ m y. map (λ (z : GraphPoint). line_of t z.address) y.points)
        (λ m y. map_length (λ (z : GraphPoint). line_of t z.address) y.points)
        g.blocks 0 i k b 0 e lt
        ∙ item_at (map (λ (z : GraphPoint). line_of t z.address) b.points) k (line_of t (x.0).address) 0
        (map_at (λ (z : GraphPoint). line_of t z.address) b.points k x.0 x.1)
        ∙ ap (λ (q : Point). line_of t q.address) (sym x.2)

    pub cost_here : (i k : ℕ) (b : Block) → slice_get g.blocks i ≡ Some b → k < length b.points
        → (x : GraphPoint) × Contains b.points x × (point_at g (first_of g.blocks i + k) ≡ graph_point lists x)
        × (slice_index_or p.costs (first_of g.blocks i + k) 0 ≡ point_cost t x.insn)
    cost_here i k b e lt =
        let x = point_here i k b e lt in (
          x.0,
          contained b.points k x.0 x.1,
          x.2,
          ap (λ (xs : List ℕ). slice_index_or xs (first_of g.blocks i + k) 0) are.costs
              ∙ joined_at (λ m y. map (λ (z : GraphPoint). point_cost t z.insn) y.points)
              (λ m y. map_length (λ (z : GraphPoint). point_cost t z.insn) y.points)
              g.blocks 0 i k b 0 e lt
              ∙ item_at (map (λ (z : GraphPoint). point_cost t z.insn) b.points) k (point_cost t (x.0).insn) 0
              (map_at (λ (z : GraphPoint). point_cost t z.insn) b.points k x.0 x.1),
        )

    -- ---- what follows a numbered point

    pub next_inner : (i k : ℕ) (b : Block) → slice_get g.blocks i ≡ Some b → k + 1 < length b.points
        → (code_of (maps_of n p)).next (first_of g.blocks i + k) (first_of g.blocks i + k + 1) ≡ true
    next_inner i k b e lt =
        let row : row_in p.next (first_of g.blocks i + k) ≡ (first_of g.blocks i + k + 1) ∷ [] = inner_row i k b e lt in
        sym (are.before (first_of g.blocks i + k) (first_of g.blocks i + k + 1))
        ∙ ap (holds nat_eq (first_of g.blocks i + k + 1)) row ∙ holds_first ℕ nat_equality (first_of g.blocks i + k + 1) []
      where
        inner_row : (i k : ℕ) (b : Block) → slice_get g.blocks i ≡ Some b → k + 1 < length b.points
            → row_in p.next (first_of g.blocks i + k) ≡ (first_of g.blocks i + k + 1) ∷ []
        inner_row i k b e lt =
            let zero_first : 0 + first_of g.blocks i ≡ first_of g.blocks i = omega arith in
            ap (λ (xs : List (List ℕ)). row_in xs (first_of g.blocks i + k)) are.next
            ∙ next_at (firsts_from 0 g.blocks) g.blocks 0 i k b e (omega (arith, lt))
            ∙ following_inner (0 + first_of g.blocks i) (length b.points) k (firsts_at (firsts_from 0 g.blocks) b.next) lt
            ∙ ap (λ (m : ℕ). (m + k + 1) ∷ []) zero_first

    pub last_row : (i m : ℕ) (b : Block) → slice_get g.blocks i ≡ Some b → length b.points ≡ suc m
        → row_in p.next (first_of g.blocks i + m) ≡ firsts_at (firsts_from 0 g.blocks) b.next
    last_row i m b e size =
        ap (λ (xs : List (List ℕ)). row_in xs (first_of g.blocks i + m)) are.next
        ∙ next_at (firsts_from 0 g.blocks) g.blocks 0 i m b e (omega (arith, size))
        ∙ ap (λ (k : ℕ). row_in (following (0 + first_of g.blocks i) k (firsts_at (firsts_from 0 g.blocks) b.next)) m) size
        ∙ following_last (0 + first_of g.blocks i) m (firsts_at (firsts_from 0 g.blocks) b.next)

    first_held : (next : List ℕ) (j : ℕ) → Contains next j → j < length g.blocks
        → holds nat_eq (first_of g.blocks j) (firsts_at (firsts_from 0 g.blocks) next) ≡ true
    first_held next j i lt =
        let is_first : get_or (firsts_from 0 g.blocks) j 0 ≡ first_of g.blocks j = (let f = first_is g.blocks 0 j lt in omega (arith, f)) in
        subst (λ (q : ℕ). holds nat_eq q (firsts_at (firsts_from 0 g.blocks) next) ≡ true) is_first
        (contains_holds (get_or (firsts_from 0 g.blocks) j 0) (firsts_at (firsts_from 0 g.blocks) next)
        (map_in (λ b. get_or (firsts_from 0 g.blocks) b 0) next j i))

    pub next_across : (i j m : ℕ) (b : Block) → slice_get g.blocks i ≡ Some b → length b.points ≡ suc m → Contains b.next j
        → j < length g.blocks
        → (code_of (maps_of n p)).next (first_of g.blocks i + m) (first_of g.blocks j) ≡ true
    next_across i j m b e size c lt =
        sym (are.before (first_of g.blocks i + m) (first_of g.blocks j))
        ∙ ap (holds nat_eq (first_of g.blocks j)) (last_row i m b e size) ∙ first_held b.next j c lt
