-- A graph with its loops, uses and levels is an analysis.
use Rattle.std.proofs.Common.{◌≡◌, ◌≢◌, ◌⊎◌, inl, inr, ℕ, zero, suc, ◌+◌, ◌-◌, ◌<◌, ◌≤◌, ◌*◌, List, [], ◌∷◌, length, map, get_or, refl, sym, ap}
use Rattle.std.proofs.Common.{◌∙◌, subst}
use Rattle.std.proofs.Common.{Bool, true, false, arith}
use Rattle.std.specs.Prelude.{Option, Some, None, Contains, ◌==◌, ◌&&◌, ◌||◌, slice_get, slice_index_or, nat_eq, nat_lt, is_some}
use Rattle.std.specs.Prelude.{if◌then◌else◌, max, unwrap_or}
use Rattle.std.specs.List.{AllByRecursion, list_any}
use Rattle.std.proofs.lemmas.Bool.{false≢true}
use Rattle.std.proofs.lemmas.Bool.Decides.{nat_tests}
use Rattle.elf32_image.specs.Parts.{ImageValue}
use Rattle.arm_isa.specs.declared.instruction.Insn.{Insn}
use Rattle.fetch_timing.specs.declared.timing.Timing.{Timing}
use Rattle.fetch_timing.specs.Timings.{point_cost}
use Rattle.wsym_terms.specs.declared.trees.BlockUses.{BlockUses}
use Rattle.wsym_terms.specs.declared.trees.Use.{Use}
use Rattle.wsym_terms.specs.Trees.{greatest_scope}
use Rattle.graph_search.specs.Flows.{edge, leads}
use Rattle.graph_search.specs.NodeLists.{holds}
use Rattle.graph_search.specs.Rows.{row_in}
use Rattle.graph_search.specs.Walks.{Reached}
use Rattle.control_flow.specs.Instructions.{instruction_at}
use Rattle.control_flow.specs.Points.{Point, entry_point}
use Rattle.control_flow.specs.Routes.{Goes, Leaves}
use Rattle.control_flow.specs.Ways.{ways_from}
use Rattle.basic_blocks.specs.Blocks.{AreBlocks, Ascending, Chain, IsChain, by_first, last_of, points}
use Rattle.basic_blocks.specs.Chains.{mapped}
use Rattle.basic_blocks.specs.PointOrder.{Before}
use Rattle.basic_blocks.proofs.AgreementLemmas.{before_apart}
use Rattle.basic_blocks.proofs.NumberLemmas.{ascending_at}
use Rattle.function_points.proofs.MemberLemmas.{first_or_rest, in_none}
use Rattle.flow_graph.specs.declared.graph.Block.{Block}
use Rattle.flow_graph.specs.declared.graph.BlockGraph.{BlockGraph}
use Rattle.flow_graph.specs.declared.graph.GraphPoint.{GraphPoint}
use Rattle.flow_graph.proofs.FlowLemmas.{all_reached}
use Rattle.flow_graph.specs.Flow.{flow_in, next_of, returns_of}
use Rattle.flow_graph.specs.Graphs.{IsGraphBy, IsGraphOf, graph_point, returns_in}
use Rattle.interval_loops.specs.declared.nest.LoopNest.{LoopNest}
use Rattle.interval_loops.specs.Nests.{IsNestIn, IsNestOf, around_of, depth_of, header_of, inner_of, parent_of}
use Rattle.interval_loops.specs.Loops.{IsRound}
use Rattle.interval_loops.specs.Rounds.{last_or, round_by, within_by}
use Rattle.interval_loops.proofs.ClosingLemmas.{closes}
use Rattle.interval_loops.proofs.RoundLemmas.{are_ends, are_loops, is_order, is_round}
use Rattle.graph_reduction.specs.Loops.{ClosesLoops}
use Rattle.level_tables.specs.FlowLevels.{AreUsesIn, IsLevelsOf}
use Rattle.line_uses.specs.Leaves.{AreUsesOf, leaf_of}
use Rattle.line_uses.specs.PointMaps as maps
use Rattle.line_uses.specs.Scopes.{cost_in, scope_in}
use Rattle.line_uses.specs.declared.leaves.LineUses.{LineUses}
use Rattle.graph_reduction.specs.Reduction.{State}
use Rattle.persistence.specs.BlockMisses.{always, is_use}
use Rattle.persistence.specs.Spots.{Spot, base_of_points, spots, turned, use_of, uses_of_points, with_spot}
use Rattle.persistence.specs.Younger.{AtLeast, Code, IsScope, IsYounger}
use Rattle.tree_law.specs.Levels.{Nest}
use Rattle.tree_law.specs.NodeOrders.{sum_over}
use Rattle.block_points.specs.declared.tables.BlockPoints.{BlockPoints}
use Rattle.block_points.specs.Numbering.{first_of, numbers_from, rows_from}
use Rattle.block_points.specs.Tables.{ArePoints}
use Rattle.cycle_bounds.specs.Analyses.{Analysis, AreNumbers, AreScopes, base_of, flow_of, points_at, points_in, uses_of}
use Rattle.cycle_bounds.specs.Functions.{IsAnalysisOf, line_at, most_at, most_of}
use Rattle.graph_analyses.specs.GraphAnalyses.{analysis_of, chain_of, maps_of, point_at}
use Rattle.graph_analyses.proofs.CutLemmas.{Both, Numbered, all_home, both_at, cost_here, cut_is, line_here, next_across, next_inner}
use Rattle.graph_analyses.proofs.CutLemmas.{numbered, row_there, rows_length, contained}
use Rattle.graph_analyses.proofs.DepthLemmas.{last_held, place_of_last}
use Rattle.graph_analyses.proofs.NumberLemmas.{all_numbers, chain_numbers, inside_at, item_at, last_number, map_at, map_length, mapped_at}
use Rattle.graph_analyses.proofs.NumberLemmas.{some_item, sum_same}

-- ---- tests

below : (i n : ℕ) → i < n → nat_lt i n ≡ true
below i n lt = grind (arith, nat_tests)

both_true : (a b : Bool) → a ≡ true → b ≡ true → a && b ≡ true
both_true a b e f = cc

any_of : (next : List ℕ) (j : ℕ) → Contains next j → list_any (λ x. x == j) next ≡ true
any_of [] j i = absurd (in_none j i)
any_of (x ∷ next) j i =
    elim (first_or_rest x j next i) as (λ _. list_any (λ y. y == j) (x ∷ next) ≡ true) [
      | inl e ↦ left (x == j) (list_any (λ y. y == j) next) (grind (arith, nat_tests, e))
      | inr n ↦ right (x == j) (list_any (λ y. y == j) next) (any_of next j n)
    ]
  where
    left : (a b : Bool) → a ≡ true → a || b ≡ true
    left a b e = cc

    right : (a b : Bool) → b ≡ true → a || b ≡ true
    right true b e = refl
    right false b e = e

last_mapped : (f : ℕ → Point) (p : ℕ) (ps : List ℕ) → last_of (f p) (map f ps) ≡ f (last_of p ps)
last_mapped f p [] = refl
last_mapped f p (q ∷ ps) = last_mapped f q ps

-- where no point of a block has a scope past a depth, no use of it has
scopes_low : (c : Code) (scope : ℕ → Option ℕ) (home : ℕ → ℕ) (i m : ℕ)
    → ((q d : ℕ) → home q ≡ i → scope q ≡ Some d → d ≤ m) → (prev : Option ℕ) (done ps : List ℕ)
    → AllByRecursion (λ q. home q ≡ i) ps → greatest_scope (map (use_of c scope) (spots c scope prev done ps)) ≤ m
scopes_low c scope home i m low prev done [] all = omega arith
scopes_low c scope home i m low prev done (q ∷ ps) all =
    by_case (is_use c prev q) (scope q) refl (record { before = done; point = q; later = turned ps [] }) refl
    (spots c scope (Some q) (q ∷ done) ps) (scopes_low c scope home i m low (Some q) (q ∷ done) ps all.1)
  where
    max_low : (x y : ℕ) → x ≤ m → y ≤ m → max x y ≤ m
    max_low x y h k = omega (arith, h, k)

    by_case : (test : Bool) (o : Option ℕ) → scope q ≡ o → (spot : Spot) → spot.point ≡ q → (rest : List Spot)
        → greatest_scope (map (use_of c scope) rest) ≤ m
        → greatest_scope (map (use_of c scope) (with_spot test (is_some o) spot rest)) ≤ m
    by_case false o e spot here rest few = few
    by_case true None e spot here rest few = few
    by_case true (Some d) e spot here rest few =
        let mine : unwrap_or (scope spot.point) 0 ≤ m =
        subst (λ (o : Option ℕ). unwrap_or o 0 ≤ m) (sym (ap scope here ∙ e)) (low q d all.0 e) in
        max_low (unwrap_or (scope spot.point) 0) (greatest_scope (map (use_of c scope) rest)) mine few

module _ (image : ImageValue) (entry : ℕ) (g : BlockGraph) (is : IsGraphOf image entry g) (t : Timing) (n : LoopNest)
    (p : BlockPoints) (are : ArePoints t g.blocks p) (scopes : List (Option ℕ)) (rank : ℕ → ℕ) (nest : Nest) where
  abbrev a : Analysis
  a = analysis_of g n p scopes rank nest

  abbrev by : IsGraphBy (ways_from image entry) (instruction_at image) (entry_point entry) g
  by = is.graph

  here : (i : ℕ) (c : Chain ℕ) → slice_get a.blocks i ≡ Some c
      → Numbered (ways_from image entry) (instruction_at image) (entry_point entry) g by t n p are i c
  here i c e = numbered (ways_from image entry) (instruction_at image) (entry_point entry) g by t n p are i c e

  first_point : (i : ℕ) (c : Chain ℕ) (e : slice_get a.blocks i ≡ Some c) → a.point c.first ≡ (here i c e).both.chain.first
  first_point i c e = ap (λ (x : Chain Point). x.first) (here i c e).chain

  last_point : (i : ℕ) (c : Chain ℕ) (e : slice_get a.blocks i ≡ Some c)
      → a.point (last_of c.first c.rest) ≡ last_of (here i c e).both.chain.first (here i c e).both.chain.rest
  last_point i c e = sym (last_mapped a.point c.first c.rest) ∙ ap (λ (x : Chain Point). last_of x.first x.rest) (here i c e).chain

  -- the last number of a block
  last_is : (i : ℕ) (c : Chain ℕ) (e : slice_get a.blocks i ≡ Some c)
      → last_of c.first c.rest ≡ first_of g.blocks i + (length (here i c e).both.block.points - 1)
  last_is i c e =
      let h = here i c e in
      two c.first (first_of g.blocks i) c.rest (numbers_from (first_of g.blocks i + 1) (length h.both.block.points - 1)) h.first h.rest
      ∙ last_number (first_of g.blocks i) (length h.both.block.points - 1)
    where
      two : (x y : ℕ) (xs ys : List ℕ) → x ≡ y → xs ≡ ys → last_of x xs ≡ last_of y ys
      two x y xs ys e f = cc

  abbrev by_any : Chain Point
  by_any = record { first = entry_point entry; rest = [] }

  lower : (i j : ℕ) → i < j → j < length by.chains → Before (get_or by.chains i by_any).first (get_or by.chains j by_any).first
  lower i j lt inside = ascending_at (by_first Before) by.chains by_any i j by.ascending lt inside

  -- two chains with one first point are one
  one_first : (i j : ℕ) (c d : Chain Point) → slice_get by.chains i ≡ Some c → slice_get by.chains j ≡ Some d → c.first ≡ d.first → i ≡ j
  one_first i j c d e f same =
      by_order (order i j)
    where
      order : (i j : ℕ) → (i ≡ j) ⊎ ((i < j) ⊎ (j < i))
      order zero zero = inl refl
      order zero (suc j) = inr (inl (omega arith))
      order (suc i) zero = inr (inr (omega arith))
      order (suc i) (suc j) =
          elim (order i j) as (λ _. (suc i ≡ suc j) ⊎ ((suc i < suc j) ⊎ (suc j < suc i))) [
            | inl e ↦ inl (ap suc e)
            | inr r ↦ elim r as (λ _. (suc i ≡ suc j) ⊎ ((suc i < suc j) ⊎ (suc j < suc i))) [
              | inl lt ↦ inr (inl (omega (arith, lt)))
              | inr gt ↦ inr (inr (omega (arith, gt)))
            ]
          ]

      apart : (q : Point) → Before q q → ⊥
      apart q b = before_apart q q b b

      at_i : get_or by.chains i by_any ≡ c
      at_i = item_at by.chains i c by_any e

      at_j : get_or by.chains j by_any ≡ d
      at_j = item_at by.chains j d by_any f

      by_order : (i ≡ j) ⊎ ((i < j) ⊎ (j < i)) → i ≡ j
      by_order o =
          elim o as (λ _. i ≡ j) [
            | inl e ↦ e
            | inr r ↦ elim r as (λ _. i ≡ j) [
              | inl lt ↦ absurd (apart d.first (subst (λ (q : Point). Before q d.first) same
                  (subst (λ (x : Chain Point). Before x.first d.first) at_i
                  (subst (λ (x : Chain Point). Before (get_or by.chains i by_any).first x.first) at_j
                  (lower i j lt (inside_at by.chains j d f))))))
              | inr gt ↦ absurd (apart d.first (subst (λ (q : Point). Before d.first q) same
                  (subst (λ (x : Chain Point). Before d.first x.first) at_i
                  (subst (λ (x : Chain Point). Before x.first (get_or by.chains i by_any).first) at_j
                  (lower j i gt (inside_at by.chains i c e))))))
            ]
          ]

  pub are_numbers : AreNumbers (ways_from image entry) (entry_point entry) (line_at t) a
  are_numbers = record {
    cut = subst (AreBlocks (ways_from image entry) (entry_point entry))
        (sym (cut_is (ways_from image entry) (instruction_at image) (entry_point entry) g by t n p are)) by.blocks;
    first = first;
    inside = inside;
    home = home;
    lines = lines;
    steps = steps;
    crosses = crosses;
    leaves = leaves;
  }
    where
      first : (i : ℕ) (c : Chain ℕ) → slice_get a.blocks i ≡ Some c → a.point c.first ≡ entry_point entry → i ≡ a.entry
      first i c e start =
          one_first i g.entry_block (here i c e).both.chain by.enters.0 (here i c e).both.found by.enters.1
          (sym (first_point i c e) ∙ start ∙ sym by.enters.2)

      inside : (i : ℕ) (c : Chain ℕ) → slice_get a.blocks i ≡ Some c → a.within 0 i ≡ true
      inside i c e = (let lt = (here i c e).listed in let s = by.count in below i g.block_count (omega (arith, lt, s)))

      home : (i : ℕ) (c : Chain ℕ) → slice_get a.blocks i ≡ Some c → AllByRecursion (λ q. a.block_of q ≡ i) (points c)
      home i c e =
          subst (AllByRecursion (λ q. a.block_of q ≡ i)) (sym (here i c e).numbers)
          (all_home (ways_from image entry) (instruction_at image) (entry_point entry) g by t n p are i (here i c e).both.block
          (here i c e).both.there)

      lines : (i : ℕ) (c : Chain ℕ) → slice_get a.blocks i ≡ Some c → AllByRecursion (λ q. a.code.line q ≡ line_at t (a.point q)) (points c)
      lines i c e =
          subst (AllByRecursion (λ q. a.code.line q ≡ line_at t (a.point q))) (sym (here i c e).numbers)
          (all_numbers (λ q. a.code.line q ≡ line_at t (a.point q)) (first_of g.blocks i) (length (here i c e).both.block.points)
          (λ k lt. line_here (ways_from image entry) (instruction_at image) (entry_point entry) g by t n p are i k (here i c e).both.block
          (here i c e).both.there lt))

      steps : (i : ℕ) (c : Chain ℕ) → slice_get a.blocks i ≡ Some c → IsChain (λ q r. a.code.next q r ≡ true) c.first c.rest
      steps i c e =
          let h = here i c e in
          subst (λ (q : ℕ). IsChain (λ q r. a.code.next q r ≡ true) q c.rest) (sym h.first)
          (subst (IsChain (λ q r. a.code.next q r ≡ true) (first_of g.blocks i)) (sym h.rest)
          (chain_numbers (λ q r. a.code.next q r ≡ true) (first_of g.blocks i) (length h.both.block.points - 1)
          (λ k lt. next_inner (ways_from image entry) (instruction_at image) (entry_point entry) g by t n p are i k h.both.block
          h.both.there
          (let some = h.both.some in omega (arith, lt, some)))))

      crosses : (i j : ℕ) (c d : Chain ℕ) → slice_get a.blocks i ≡ Some c → slice_get a.blocks j ≡ Some d
          → Goes (ways_from image entry) (a.point (last_of c.first c.rest)) (a.point d.first)
          → (a.code.next (last_of c.first c.rest) d.first ≡ true) × (a.next i j ≡ true)
      crosses i j c d e f goes =
          let h = here i c e in
          let k = here j d f in
          let next = (by.next i h.both.chain h.both.block h.both.found h.both.there).next j in
          let moved : Goes (ways_from image entry) (last_of h.both.chain.first h.both.chain.rest) k.both.chain.first =
          subst (λ (q : Point). Goes (ways_from image entry) q k.both.chain.first) (last_point i c e)
          (subst (Goes (ways_from image entry) (a.point (last_of c.first c.rest))) (first_point j d f) goes) in
          let listed : Contains h.both.block.next j = next.1 (k.both.chain, k.both.found, moved) in
          let some = h.both.some in
          let size : length h.both.block.points ≡ suc (length h.both.block.points - 1) = omega (arith, some) in (
            subst (λ (q : ℕ). a.code.next q d.first ≡ true) (sym (last_is i c e))
                (subst (λ (r : ℕ). a.code.next (first_of g.blocks i + (length h.both.block.points - 1)) r ≡ true) (sym k.first)
                (next_across (ways_from image entry) (instruction_at image) (entry_point entry) g by t n p are i j
                (length h.both.block.points - 1)
                h.both.block h.both.there size listed k.listed)),
            edged i j h.both.block h.both.there h.listed listed,
          )
        where
          edged : (i j : ℕ) (b : Block) → slice_get g.blocks i ≡ Some b → i < length g.blocks → Contains b.next j
              → edge (flow_in g) i j ≡ true
          edged i j b e lt listed =
              let s = by.count in
              both_true (nat_lt i g.block_count) (list_any (λ x. x == j) ((flow_in g).next i))
              (below i g.block_count (omega (arith, lt, s)))
              (subst (λ (o : Option Block). list_any (λ x. x == j) (next_of o) ≡ true) (sym e) (any_of b.next j listed))

      leaves : (i : ℕ) (c : Chain ℕ) → slice_get a.blocks i ≡ Some c → Leaves (ways_from image entry) (a.point (last_of c.first c.rest))
          → a.ends i ≡ true
      leaves i c e out =
          let h = here i c e in
          let returns = (by.next i h.both.chain h.both.block h.both.found h.both.there).returns in
          subst (λ (o : Option Block). returns_of o ≡ true) (sym h.both.there)
          (returns.1 (subst (Leaves (ways_from image entry)) (last_point i c e) out))

  -- ---- bases and uses

  points_are : (i : ℕ) (c : Chain ℕ) → slice_get a.blocks i ≡ Some c → points_at a i ≡ points c
  points_are i c e = ap points_in e

  row_is : (i : ℕ) (c : Chain ℕ) (e : slice_get a.blocks i ≡ Some c)
      → slice_get p.rows i ≡ Some (numbers_from (first_of g.blocks i) (length (here i c e).both.block.points))
  row_is i c e =
      let h = here i c e in
      let zero_first : 0 + first_of g.blocks i ≡ first_of g.blocks i = omega arith in
      ap (λ (xs : List (List ℕ)). slice_get xs i) are.rows ∙ row_there g.blocks 0 i h.both.block h.both.there
      ∙ ap (λ (m : ℕ). Some (numbers_from m (length h.both.block.points))) zero_first

  costs_are : (i : ℕ) (c : Chain ℕ) (e : slice_get a.blocks i ≡ Some c)
      → sum_over (cost_in p.costs) (numbers_from (first_of g.blocks i) (length (here i c e).both.block.points))
      ≡ sum_over (λ q. most_at image t (a.point q)) (numbers_from (first_of g.blocks i) (length (here i c e).both.block.points))
  costs_are i c e =
      let h = here i c e in
      sum_same (cost_in p.costs) (λ q. most_at image t (a.point q)) (first_of g.blocks i) (length h.both.block.points)
      (λ k lt. one k (cost_here (ways_from image entry) (instruction_at image) (entry_point entry) g by t n p are i k h.both.block
      h.both.there lt) h.both.there)
    where
      one : (k : ℕ) → (x : GraphPoint) × Contains (here i c e).both.block.points x
          × (point_at g (first_of g.blocks i + k) ≡ graph_point (returns_in g.contexts) x)
          × (slice_index_or p.costs (first_of g.blocks i + k) 0 ≡ point_cost t x.insn) → slice_get g.blocks i ≡ Some (here i c e).both.block
          → cost_in p.costs (first_of g.blocks i + k) ≡ most_at image t (a.point (first_of g.blocks i + k))
      one k (x, m, q, cost) there =
          let known = by.known (here i c e).both.block x (contained g.blocks i (here i c e).both.block there) m in
          cost ∙ sym (ap (λ (r : Point). most_of t (instruction_at image r.address)) q ∙ ap (most_of t) known.1)

  -- what stands of a block in its leaf
  leaf_there : (u : LineUses) → AreUsesOf t.sets t.ways t.miss (maps_of n p) p.rows p.costs u
      → (i : ℕ) (c : Chain ℕ) (e : slice_get a.blocks i ≡ Some c)
      → slice_get u.blocks i ≡ Some
      (leaf_of t.miss p.costs (maps_of n p) u.scopes (numbers_from (first_of g.blocks i) (length (here i c e).both.block.points)))
  leaf_there u uses i c e =
      ap (λ (xs : List BlockUses). slice_get xs i) uses.blocks
      ∙ map_at (leaf_of t.miss p.costs (maps_of n p) u.scopes) p.rows i
      (numbers_from (first_of g.blocks i) (length (here i c e).both.block.points)) (row_is i c e)

  numbers_are : (i : ℕ) (c : Chain ℕ) (e : slice_get a.blocks i ≡ Some c)
      → points_at a i ≡ numbers_from (first_of g.blocks i) (length (here i c e).both.block.points)
  numbers_are i c e = points_are i c e ∙ (here i c e).numbers

  pub base_is : (u : LineUses) → scopes ≡ u.scopes → AreUsesOf t.sets t.ways t.miss (maps_of n p) p.rows p.costs u
      → IsLevelsOf (flow_in g) n u.blocks nest
      → (i : ℕ) (c : Chain ℕ) → slice_get a.blocks i ≡ Some c → nest.base i ≡ base_of t (most_at image t) a i
  base_is u same uses levels i c e =
      let row = numbers_from (first_of g.blocks i) (length (here i c e).both.block.points) in
      let leaf = levels.costs i (leaf_of t.miss p.costs (maps_of n p) u.scopes row) (leaf_there u uses i c e) in
      leaf.0
      ∙ ap (λ (s : List (Option ℕ)). base_of_points t.miss (cost_in p.costs) (maps.code_of (maps_of n p)) (scope_in s) row) (sym same)
      ∙ ap (λ (m : ℕ). m + t.miss * always (maps.code_of (maps_of n p)) (λ q. is_some (scope_in scopes q)) None row) (costs_are i c e)
      ∙ ap (base_of_points t.miss (λ q. most_at image t (a.point q)) a.code a.scope) (sym (numbers_are i c e))

  pub uses_are : (u : LineUses) → scopes ≡ u.scopes → AreUsesOf t.sets t.ways t.miss (maps_of n p) p.rows p.costs u
      → IsLevelsOf (flow_in g) n u.blocks nest
      → (i : ℕ) (c : Chain ℕ) → slice_get a.blocks i ≡ Some c → nest.uses i ≡ uses_of a i
  uses_are u same uses levels i c e =
      let row = numbers_from (first_of g.blocks i) (length (here i c e).both.block.points) in
      let leaf = levels.costs i (leaf_of t.miss p.costs (maps_of n p) u.scopes row) (leaf_there u uses i c e) in
      leaf.1
      ∙ ap (λ (s : List (Option ℕ)). uses_of_points (maps.code_of (maps_of n p)) (scope_in s) row) (sym same)
      ∙ ap (uses_of_points a.code a.scope) (sym (numbers_are i c e))

  -- ---- scopes

  module _ (s : State) (in_nest : IsNestIn (flow_in g) s rank n) where
    reach : (b : ℕ) → b < (flow_in g).count → Reached (leads (edge (flow_in g))) (flow_in g).entry b
    reach = all_reached image entry g is

    closing : ClosesLoops (leads (edge (flow_in g))) s.closed (flow_in g).entry
    closing = closes (flow_in g) s rank in_nest.reduced in_nest.rises

    round_is : IsRound (flow_of a) a.at a.round
    round_is =
        is_round (flow_in g) s.closed rank closing reach in_nest.rises (header_of (flow_in g) n) (parent_of n) (inner_of n) (depth_of n)
        (around_of n) 16 in_nest.round (flow_in g).returns

    depth_is : (b : ℕ) → depth_of n (inner_of n b) ≡ length (around_of n b)
    depth_is b =
        let r = in_nest.round in
        place_of_last rank_of (around_of n b) (depth_of n (inner_of n b)) (r.rising b) (λ d h. (r.inside d b h).0) at_place none
      where
        rank_of : ℕ → ℕ
        rank_of d = rank (header_of (flow_in g) n d)

        none : around_of n b ≡ [] → depth_of n (inner_of n b) ≡ 0
        none e = ap (depth_of n) (in_nest.round.innermost b ∙ ap (last_or 0) e) ∙ in_nest.round.top

        at_place : slice_index_or (0 ∷ around_of n b) (depth_of n (inner_of n b)) 0 ≡ last_or 0 (around_of n b)
        at_place = by_list (around_of n b) refl
          where
            alone : (k z : ℕ) → slice_index_or (z ∷ []) k z ≡ z
            alone zero z = refl
            alone (suc k) z = refl

            by_list : (xs : List ℕ) → around_of n b ≡ xs
                → slice_index_or (0 ∷ around_of n b) (depth_of n (inner_of n b)) 0 ≡ last_or 0 (around_of n b)
            by_list [] e =
                ap (λ (xs : List ℕ). slice_index_or (0 ∷ xs) (depth_of n (inner_of n b)) 0) e ∙ alone (depth_of n (inner_of n b)) 0
                ∙ sym (ap (last_or 0) e)
            by_list (x ∷ xs) e =
                let held : holds nat_eq (last_or 0 (around_of n b)) (around_of n b) ≡ true =
                subst (λ (ys : List ℕ). holds nat_eq (last_or 0 ys) ys ≡ true) (sym e) (last_held x xs) in
                let inner = in_nest.round.innermost b in
                let mine : holds nat_eq (inner_of n b) (around_of n b) ≡ true =
                subst (λ (d : ℕ). holds nat_eq d (around_of n b) ≡ true) (sym inner) held in
                let within : within_by (flow_in g) (around_of n) (inner_of n b) b ≡ true =
                inside_by (inner_of n b) (nat_lt b (flow_in g).count) (holds nat_eq (inner_of n b) (around_of n b))
                (in_nest.round.inside (inner_of n b) b mine).0 mine in
                round_is.own (inner_of n b) b within ∙ inner
              where
                by_test : (z x y : Bool) → z ≡ false → y ≡ true → (if z then x else y) ≡ true
                by_test z x y f e = cc

                not_zero : (d : ℕ) → d ≢ 0 → nat_eq d 0 ≡ false
                not_zero zero ne = absurd (ne refl)
                not_zero (suc d) ne = grind (arith, nat_tests)

                inside_by : (d : ℕ) (x y : Bool) → d ≢ 0 → y ≡ true → (if nat_eq d 0 then x else y) ≡ true
                inside_by d x y ne e = by_test (nat_eq d 0) x y (not_zero d ne) e

    pub are_scopes : (u : LineUses) → scopes ≡ u.scopes → AreUsesOf t.sets t.ways t.miss (maps_of n p) p.rows p.costs u → AreScopes t a
    are_scopes u same uses q d e =
        let b = maps.block_of (maps_of n p) q in
        let found = uses.scopes.found q d (ap (λ (xs : List (Option ℕ)). scope_in xs q) (sym same) ∙ e) in
        subst (λ (m : ℕ). IsScope a.code t.sets t.ways (λ e r. a.within (a.round b e) (a.block_of r)) m q d) (sym (depth_is b))
        (subst (λ (k : ℕ). IsScope a.code t.sets t.ways
        (λ e r. if nat_eq (a.round b e) 0 then nat_lt (a.block_of r) k else holds nat_eq (a.round b e) (around_of n (a.block_of r)))
        (length (around_of n b)) q d) in_nest.sizes.1 found)

    pub are_analysis : (u : LineUses) → scopes ≡ u.scopes → AreUsesOf t.sets t.ways t.miss (maps_of n p) p.rows p.costs u
        → IsLevelsOf (flow_in g) n u.blocks nest → IsAnalysisOf image t entry a
    are_analysis u same uses levels = record {
      numbers = are_numbers;
      scopes = are_scopes u same uses;
      base = base_is u same uses levels;
      uses = uses_are u same uses levels;
      are_loops = are_loops (flow_in g) s.closed rank closing reach in_nest.rises (header_of (flow_in g) n) (parent_of n) (inner_of n)
          (depth_of n) (around_of n) 16 in_nest.round;
      are_round = round_is;
      order = is_order (flow_in g) s.closed rank closing reach in_nest.rises (header_of (flow_in g) n) (parent_of n) (inner_of n)
          (depth_of n) (around_of n) 16 in_nest.round;
      apart = are_ends (flow_in g) s.closed rank closing reach in_nest.rises (header_of (flow_in g) n) (parent_of n) (inner_of n)
          (depth_of n) (around_of n) 16 in_nest.round refl in_nest.ranks;
      levels = levels.are;
      edges = levels.all;
    }

    -- no use in the leaf of a block has a scope inside a deeper loop than the block's innermost
    pub uses_low : (u : LineUses) → scopes ≡ u.scopes → AreUsesOf t.sets t.ways t.miss (maps_of n p) p.rows p.costs u
        → (i : ℕ) (x : BlockUses) → slice_get u.blocks i ≡ Some x → greatest_scope x.uses ≤ depth_of n (inner_of n i)
    uses_low u same uses i x e =
        let found = mapped_at (leaf_of t.miss p.costs (maps_of n p) u.scopes) p.rows i x
        (ap (λ (xs : List BlockUses). slice_get xs i) (sym uses.blocks) ∙ e) in
        let c = chain_of found.0 in
        let there : slice_get a.blocks i ≡ Some c = map_at chain_of p.rows i found.0 found.1 in
        let row : found.0 ≡ points c =
        some_item found.0 (numbers_from (first_of g.blocks i) (length (here i c there).both.block.points))
        (sym found.1 ∙ row_is i c there)
        ∙ sym (here i c there).numbers in
        let home : AllByRecursion (λ q. a.block_of q ≡ i) found.0 =
        subst (AllByRecursion (λ q. a.block_of q ≡ i)) (sym row) (are_numbers.home i c there) in
        subst (λ (y : BlockUses). greatest_scope y.uses ≤ depth_of n (inner_of n i)) found.2
        (scopes_low a.code (scope_in u.scopes) a.block_of i (depth_of n (inner_of n i)) low None [] found.0 home)
      where
        low : (q d : ℕ) → a.block_of q ≡ i → scope_in u.scopes q ≡ Some d → d ≤ depth_of n (inner_of n i)
        low q d home given =
            subst (λ (b : ℕ). d ≤ depth_of n (inner_of n b)) home
            (are_scopes u same uses q d (ap (λ (xs : List (Option ℕ)). scope_in xs q) same ∙ given)).0

-- what stands of the blocks is what leaves may have
pub uses_in : (image : ImageValue) (entry : ℕ) (g : BlockGraph) → IsGraphOf image entry g → (t : Timing) (n : LoopNest)
    → IsNestOf (flow_in g) n → (p : BlockPoints) → ArePoints t g.blocks p → (u : LineUses)
    → AreUsesOf t.sets t.ways t.miss (maps_of n p) p.rows p.costs u → AreUsesIn (flow_in g) n u.blocks
uses_in image entry g is t n nested p are u uses = record {
  all = ap length uses.blocks ∙ map_length (leaf_of t.miss p.costs (maps_of n p) u.scopes) p.rows ∙ ap length are.rows
      ∙ rows_length g.blocks 0 ∙ sym is.graph.count;
  scopes = uses_low image entry g is t n p are u.scopes nested.1 no_levels nested.0 nested.2 u refl uses;
}
  where
    no_levels : Nest
    no_levels = record {
      level = λ c. record {
        edge = λ u v. false;
        useful = λ e u v. false;
        nodes = λ e. [];
        header = 0;
        close = 0;
        leave = 0;
      };
      child = λ c v. None;
      base = λ b. 0;
      uses = λ b. [];
    }
