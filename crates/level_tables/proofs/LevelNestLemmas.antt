-- The nest of levels that rows describe.
use Rattle.std.proofs.Common.{◌≡◌, ◌≢◌, ℕ, zero, suc, ◌+◌, ◌-◌, ◌<◌, ◌≤◌, ◌^◌, ◌⊎◌, inl, inr, Bool, true, List, [], ◌∷◌, length, nat_eq}
use Rattle.std.proofs.Common.{refl, sym, ap, subst, ◌∙◌, arith}
use Rattle.std.specs.Prelude.{if◌then◌else◌, Option, Some, None, slice_get}
use Rattle.std.proofs.lemmas.Bool.{eq-eqb, false≢true, lt-ltb, ne_eqb}
use Rattle.wsym_terms.specs.Trees.{greatest_scope}
use Rattle.wsym_terms.specs.declared.trees.BlockUses.{BlockUses}
use Rattle.wsym_terms.specs.declared.trees.Use.{Use}
use Rattle.graph_search.specs.Flows.{Flow, IsBounded, edge, leads}
use Rattle.graph_search.specs.Walks.{Reached}
use Rattle.interval_loops.specs.declared.nest.LoopNest.{LoopNest}
use Rattle.interval_loops.specs.Loops.{child_in}
use Rattle.interval_loops.specs.Nests.{IsNestOf, around_of, depth_of, header_of, inner_of, loops_of, parent_of}
use Rattle.interval_loops.specs.Rounds.{within_by}
use Rattle.tree_law.specs.LevelEdges.{AreLevels, EdgesOf, IsLevelEdge, Reaches, level_rank}
use Rattle.tree_law.specs.Levels.{IsEnd, Level, Nest}
use Rattle.tree_law.specs.Ways.{IsIn, Path}
use Rattle.tree_law.proofs.NodeLemmas.{level_up, rank_of_end}
use Rattle.node_elimination.specs.GivenLevels.{edges_of}
use Rattle.node_elimination.specs.LevelStates.{Rises}
use Rattle.flow_tree.specs.FlowTables.{AreRows, AreTables, AreTasks, child_by}
use Rattle.flow_tree.specs.LevelTasks.{AreExact}
use Rattle.flow_tree.specs.declared.tables.LevelRows.{LevelRows}
use Rattle.flow_tree.specs.declared.tables.PathRows.{PathRows}
use Rattle.flow_tree.proofs.LevelTaskLemmas.{last_edge}
use Rattle.flow_tree.proofs.LevelsOfLoopsLemmas.{levels_tasks}
use Rattle.level_tables.specs.FlowLevels.{AreUsesIn, IsLevelsOf}
use Rattle.level_tables.specs.LevelRows.{AreEdgesIn, AreLevelsIn, ArePaths, IsLevelIn, Onto, Upto}
use Rattle.level_tables.proofs.NestFactLemmas.{header_cases, nest_ends, nest_loops, nest_order, node_low}
use Rattle.level_tables.proofs.PlaceLemmas.{same_header}

-- ---- a level without edges

no_path : (s : ℕ) (us : List ℕ) (t : ℕ) → Path (edges_of []) s us t → ⊥
no_path s [] t e = false≢true e
no_path s (u ∷ us) t e = false≢true e.0

no_paths : (s t : ℕ) → ArePaths (edges_of []) s t (record { nodes = []; edges = [] })
no_paths s t =
    record {
      edges = λ p q. ((λ h. absurd (false≢true h)), (λ k. k.0));
      nodes = λ u. ((λ i. absurd i), (λ k. nothing u k.0 k.2));
      rising = tt;
    }
  where
    nothing : (u : ℕ) → Onto (edges_of []) s u → u ≢ s → ⊥
    nothing u (inl e) a = a e
    nothing u (inr r) a = no_path s r.0 u r.1

abbrev pub base_or : Option BlockUses → ℕ
base_or None = 0
base_or (Some u) = u.base

abbrev pub uses_or : Option BlockUses → List Use
uses_or None = []
uses_or (Some u) = u.uses

none_past : (uses : List BlockUses) (b : ℕ) → length uses ≤ b → slice_get uses b ≡ None
none_past [] b l = refl
none_past (u ∷ uses) zero l = absurd (omega (arith, l))
none_past (u ∷ uses) (suc b) l = none_past uses b (omega (arith, l))

rows_same : (a b : LevelRows) → ◌≡◌ {A = Option LevelRows} (Some a) (Some b) → a ≡ b
rows_same a b e = ap unwrapped e
  where
    unwrapped : Option LevelRows → LevelRows
    unwrapped None = a
    unwrapped (Some x) = x

none_some : (a : LevelRows) → ◌≡◌ {A = Option LevelRows} None (Some a) → ⊥
none_some a e = cc

module _ (flow : Flow) (bounded : IsBounded flow) (reach : (b : ℕ) → b < flow.count → Reached (leads (edge flow)) flow.entry b)
    (n : LoopNest) (is : IsNestOf flow n) (uses : List BlockUses) (given : AreUsesIn flow n uses) (rows : List LevelRows)
    (levels : AreLevelsIn flow n rows) (fits : flow.count + 2 < 2 ^ 32) where
  abbrev within : ℕ → ℕ → Bool
  within = within_by flow (around_of n)

  no_edges : (c : ℕ) → slice_get rows c ≡ None → AreEdgesIn flow n c []
  no_edges c e =
      record {
        real = λ p q h. absurd (false≢true h);
        turns = λ u v i j f h. absurd (false≢true (sym (levels.none c u e).1 ∙ i));
        goes = λ u v i j f h a. absurd (false≢true (sym (levels.none c u e).1 ∙ i));
        leaves = λ u i o. absurd (false≢true (sym (levels.none c u e).1 ∙ i));
        exact = λ p q h. absurd (false≢true h);
        first = λ z. absurd ((levels.none c 0 e).0 z);
      }

  -- the rows of each number, also of those beyond the tables
  pub record Given (c : ℕ) : Type 0 where
    pub table : LevelRows
    pub level_is : IsLevelIn flow n c table

  given_at : (c : ℕ) (o : Option LevelRows) → slice_get rows c ≡ o → Given c
  given_at c (Some r) e = record { table = r; level_is = levels.some c r e }
  given_at c None e =
      record {
        table = record { turns = record { nodes = []; edges = [] }; leaves = record { nodes = []; edges = [] } };
        level_is = record {
          list = [];
          are = no_edges c e;
          turning = no_paths (header_of flow n c) (flow.count + 1);
          leaving = no_paths (header_of flow n c) (flow.count + 2);
        };
      }

  pub at : (c : ℕ) → Given c
  at c = given_at c (slice_get rows c) refl

  at_is : (c : ℕ) (r : LevelRows) → slice_get rows c ≡ Some r → (at c).table ≡ r
  unfolding given_at at
  at_is c r e = by_place (slice_get rows c) refl e
    where
      by_place : (o : Option LevelRows) (f : slice_get rows c ≡ o) → o ≡ Some r → (given_at c o f).table ≡ r
      by_place (Some k) f g = rows_same k r g
      by_place None f g = absurd (none_some r g)

  abbrev pub edged : ℕ → ℕ → ℕ → Bool
  edged c = edges_of (at c).level_is.list

  abbrev pub of_end : {A : Type 0} → Bool → A → A → A
  of_end b x y = if b then x else y

  abbrev pub level : ℕ → Level
  level c = record {
    edge = edged c;
    useful = λ t. of_end (nat_eq t (flow.count + 1)) (edges_of (at c).table.turns.edges) (edges_of (at c).table.leaves.edges);
    nodes = λ t. of_end (nat_eq t (flow.count + 1)) (at c).table.turns.nodes (at c).table.leaves.nodes;
    header = header_of flow n c;
    close = flow.count + 1;
    leave = flow.count + 2;
  }

  abbrev pub nest : Nest
  nest = record {
    level = level;
    child = child_in (loops_of flow n);
    base = λ b. base_or (slice_get uses b);
    uses = λ b. uses_or (slice_get uses b);
  }

  -- ---- the rows of an end

  pub record AtEnd (c t : ℕ) : Type 0 where
    pub table : PathRows
    pub paths : ArePaths (edged c) (header_of flow n c) t table
    pub useful : (level c).useful t ≡ edges_of table.edges
    pub nodes : (level c).nodes t ≡ table.nodes

  at_close : (c t : ℕ) → t ≡ flow.count + 1 → AtEnd c t
  at_close c t e =
      record {
        table = (at c).table.turns;
        paths = subst (λ x. ArePaths (edged c) (header_of flow n c) x (at c).table.turns) (sym e) (at c).level_is.turning;
        useful = ap (λ b. of_end b (edges_of (at c).table.turns.edges) (edges_of (at c).table.leaves.edges)) (eq-eqb t (flow.count + 1) e);
        nodes = ap (λ b. of_end b (at c).table.turns.nodes (at c).table.leaves.nodes) (eq-eqb t (flow.count + 1) e);
      }

  at_leave : (c t : ℕ) → t ≡ flow.count + 2 → AtEnd c t
  at_leave c t e =
      record {
        table = (at c).table.leaves;
        paths = subst (λ x. ArePaths (edged c) (header_of flow n c) x (at c).table.leaves) (sym e) (at c).level_is.leaving;
        useful = ap (λ b. of_end b (edges_of (at c).table.turns.edges) (edges_of (at c).table.leaves.edges)) (ne_eqb t (flow.count + 1) other);
        nodes = ap (λ b. of_end b (at c).table.turns.nodes (at c).table.leaves.nodes) (ne_eqb t (flow.count + 1) other);
      }
    where
      other : t ≡ flow.count + 1 → ⊥
      other f = omega (arith, e, f)

  at_end : (c t : ℕ) → IsEnd (level c) t → AtEnd c t
  at_end c t (inl e) = at_close c t e
  at_end c t (inr e) = at_leave c t e

  -- ---- edges rise

  abbrev pub rank_of : ℕ → ℕ
  rank_of = level_rank (loops_of flow n) is.1 (flow.count + 1) (flow.count + 2) (flow.count + 1)

  begins : within 0 flow.entry ≡ true
  begins = lt-ltb flow.entry flow.count bounded.starts

  edge_up : (c p q : ℕ) → edged c p q ≡ true → rank_of p < rank_of q
  edge_up c p q e =
      level_up (loops_of flow n) (edge flow) within flow.entry (depth_of n) (λ d. 16 - depth_of n d) (nest_loops flow bounded reach n is)
      is.1 (nest_order flow bounded reach n is) (flow.count + 1) (flow.count + 2) (flow.count + 1) (nest_ends flow bounded reach n is)
      c p q begins ((at c).level_is.are.real p q e)

  path_up : (c : ℕ) (us : List ℕ) (p q : ℕ) → Path (edged c) p us q → rank_of p < rank_of q
  path_up c [] p q h = edge_up c p q h
  path_up c (u ∷ us) p q h = (let a = edge_up c p u h.0 in let b = path_up c us u q h.1 in omega (arith, a, b))

  rise_apart : (p q : ℕ) → rank_of p < rank_of q → p ≢ q
  rise_apart p q l e = (let same : rank_of p ≡ rank_of q = ap rank_of e in omega (arith, l, same))

  end_rank : (q : ℕ) → (q ≡ flow.count + 1) ⊎ (q ≡ flow.count + 2) → rank_of q ≡ flow.count + 1
  end_rank q e =
      rank_of_end (loops_of flow n) (edge flow) within flow.entry (depth_of n) (λ d. 16 - depth_of n d) (nest_loops flow bounded reach n is)
      is.1 (nest_order flow bounded reach n is) (flow.count + 1) (flow.count + 2) (flow.count + 1) (nest_ends flow bounded reach n is) q e

  -- ---- the levels

  listed : (c t u : ℕ) → IsEnd (level c) t → Reaches (edged c) (header_of flow n c) u → Reaches (edged c) u t → IsIn u ((level c).nodes t)
  listed c t u end from to =
      let k = at_end c t end in
      subst (IsIn u) (sym k.nodes) ((k.paths.nodes u).1 (
        inr from,
        inr to,
        (λ e. rise_apart (header_of flow n c) u (path_up c from.0 (header_of flow n c) u from.1) (sym e)),
        rise_apart u t (path_up c to.0 u t to.1),
      ))

  passed : (c t u : ℕ) → IsEnd (level c) t → IsIn u ((level c).nodes t)
      → Reaches (edged c) (header_of flow n c) u × Reaches (edged c) u t
  passed c t u end i =
      let k = at_end c t end in
      let p = (k.paths.nodes u).0 (subst (IsIn u) k.nodes i) in
      (from p.0 p.2, to p.1 p.3)
    where
      from : Onto (edged c) (header_of flow n c) u → u ≢ header_of flow n c → Reaches (edged c) (header_of flow n c) u
      from (inl e) a = absurd (a e)
      from (inr r) a = r

      to : Upto (edged c) t u → u ≢ t → Reaches (edged c) u t
      to (inl e) a = absurd (a e)
      to (inr r) a = r

  used_is : (c t p q : ℕ) (end : IsEnd (level c) t) → (level c).useful t p q ≡ edges_of (at_end c t end).table.edges p q
  used_is c t p q end = ap (λ (f : ℕ → ℕ → Bool). f p q) (at_end c t end).useful

  scope_low : (b : ℕ) → greatest_scope (uses_or (slice_get uses b)) ≤ depth_of n (inner_of n b)
  scope_low b = by_place (slice_get uses b) refl
    where
      by_place : (o : Option BlockUses) → slice_get uses b ≡ o → greatest_scope (uses_or o) ≤ depth_of n (inner_of n b)
      by_place None e = omega arith
      by_place (Some u) e = given.scopes b u e

  header_scope : (c : ℕ) → greatest_scope (uses_or (slice_get uses (header_of flow n c))) ≤ depth_of n c
  header_scope c = by_case (header_cases flow bounded reach n is c)
    where
      none : header_of flow n c ≡ flow.count → greatest_scope (uses_or (slice_get uses (header_of flow n c))) ≡ 0
      none e = ap (λ (o : Option BlockUses). greatest_scope (uses_or o)) (none_past uses (header_of flow n c)
          (let l = given.all in omega (arith, l, e)))

      by_case : (header_of flow n c ≡ flow.count) ⊎ ((header_of flow n c < flow.count) × (inner_of n (header_of flow n c) ≡ c))
          → greatest_scope (uses_or (slice_get uses (header_of flow n c))) ≤ depth_of n c
      by_case (inl e) = (let z = none e in omega (arith, z))
      by_case (inr k) = subst (λ d. greatest_scope (uses_or (slice_get uses (header_of flow n c))) ≤ depth_of n d) k.1
          (scope_low (header_of flow n c))

  pub are : AreLevels (loops_of flow n) (edge flow) within flow.entry (depth_of n) (flow.count + 1) (flow.count + 2) nest
  are =
      record {
        headers = λ c. refl;
        closes = λ c. refl;
        leaves = λ c. refl;
        children = λ c v. refl;
        real = λ c p q h. (at c).level_is.are.real p q h;
        between = λ c t u end from to. listed c t u end from to;
        only = λ c t u end i. passed c t u end i;
        kept = λ c t p q end e from to. used_is c t p q end ∙ ((at_end c t end).paths.edges p q).1 (e, from, to);
        used = λ c t p q end h. (((at_end c t end).paths.edges p q).0 (sym (used_is c t p q end) ∙ h)).0;
        block_uses = λ b i. scope_low b;
        header_uses = header_scope;
      }

  all : EdgesOf (loops_of flow n) (edge flow) within flow.entry flow.returns nest
  all =
      record {
        turns = λ c u v i j e h. (at c).level_is.are.turns u v i j e h;
        goes = λ c u v i j e h a. (at c).level_is.are.goes u v i j e h a;
        leaves = λ c u i o. (at c).level_is.are.leaves u i o;
        first = (at 0).level_is.are.first refl;
      }

  -- a node of a level is a block
  inside : (c t v : ℕ) → IsEnd (level c) t → IsIn v ((level c).nodes t) → v < flow.count
  inside c t v end i =
      let p = passed c t v end i in
      let l = last_edge (edged c) (header_of flow n c) p.0.0 v p.0.1 in
      by_edge p.1 ((at c).level_is.are.real l.0 v l.2)
    where
      no_end : Reaches (edged c) v t → (v ≡ flow.count + 1) ⊎ (v ≡ flow.count + 2) → ⊥
      no_end to e =
          let up = path_up c to.0 v t to.1 in
          let a = end_rank v e in
          let b = end_rank t end in
          omega (arith, up, a, b)

      by_edge : {p : ℕ} → Reaches (edged c) v t
          → IsLevelEdge (loops_of flow n) (edge flow) within flow.entry (flow.count + 1) (flow.count + 2) c p v → v < flow.count
      by_edge to (inl h) = subst (λ x. x < flow.count) h.to (node_low flow bounded reach n is c h.v h.in_v)
      by_edge to (inr (inl h)) = absurd (no_end to h.3)
      by_edge to (inr (inr h)) = subst (λ x. x < flow.count) h.2 (node_low flow bounded reach n is 0 flow.entry begins)

  low : (c t u : ℕ) → IsEnd (level c) t → IsIn u (header_of flow n c ∷ t ∷ (level c).nodes t) → u < 2 ^ 32
  low c t u end (inl e) = by_case (header_cases flow bounded reach n is c)
    where
      by_case : (header_of flow n c ≡ flow.count) ⊎ ((header_of flow n c < flow.count) × (inner_of n (header_of flow n c) ≡ c)) → u < 2 ^ 32
      by_case (inl f) = omega (arith, e, f, fits)
      by_case (inr k) = (let l = k.0 in omega (arith, e, l, fits))
  low c t u end (inr (inl e)) = by_end end
    where
      by_end : IsEnd (level c) t → u < 2 ^ 32
      by_end (inl f) = omega (arith, e, f, fits)
      by_end (inr f) = omega (arith, e, f, fits)
  low c t u end (inr (inr i)) = (let l = inside c t u end i in omega (arith, l, fits))

  pub exact : AreExact nest
  exact =
      record {
        on_path = λ c t p q end h. (let k = ((at_end c t end).paths.edges p q).0 (sym (used_is c t p q end) ∙ h) in (k.1, k.2));
        ascending = λ c t end. subst Rises (sym (at_end c t end).nodes) (at_end c t end).paths.rising;
        low = low;
      }

  costs : (b : ℕ) (u : BlockUses) → slice_get uses b ≡ Some u → (nest.base b ≡ u.base) × (nest.uses b ≡ u.uses)
  costs b u e = (ap base_or e, ap uses_or e)

  pub is_levels : IsLevelsOf flow n uses nest
  is_levels =
      record {
        are = are;
        all = all;
        exact = exact;
        edges = λ c p q h. (at c).level_is.are.exact p q h;
        costs = costs;
        others = λ b e. (ap base_or e, ap uses_or e);
      }

  -- ---- tables and tasks

  child_is : (c v : ℕ) → child_in (loops_of flow n) c v ≡ child_by flow.count n c v
  child_is c v =
      ap (λ (h : ℕ). if nat_eq (inner_of n v) 0 then None
      else (if nat_eq (parent_of n (inner_of n v)) c then (if nat_eq h v then Some (inner_of n v) else None) else None))
      (sym (same_header flow n (inner_of n v)))

  turning_rows : (c : ℕ) (l : LevelRows) → slice_get rows c ≡ Some l → AreRows (level c) (flow.count + 1) l.turns
  unfolding at at_close
  turning_rows c l e =
      subst (λ (r : LevelRows). AreRows (level c) (flow.count + 1) r.turns) (at_is c l e)
      (let k = at_close c (flow.count + 1) refl in record {
        nodes = k.nodes;
        edges = λ p q. ap (λ (f : ℕ → ℕ → Bool). f p q) k.useful;
      })

  leaving_rows : (c : ℕ) (l : LevelRows) → slice_get rows c ≡ Some l → AreRows (level c) (flow.count + 2) l.leaves
  unfolding at at_leave
  leaving_rows c l e =
      subst (λ (r : LevelRows). AreRows (level c) (flow.count + 2) r.leaves) (at_is c l e)
      (let k = at_leave c (flow.count + 2) refl in record {
        nodes = k.nodes;
        edges = λ p q. ap (λ (f : ℕ → ℕ → Bool). f p q) k.useful;
      })

  pub are_tables : AreTables flow.count (flow.count + 1) (flow.count + 2) n rows uses nest
  are_tables =
      record {
        headers = λ c. sym (same_header flow n c);
        closes = λ c. refl;
        leaves = λ c. refl;
        children = child_is;
        turning = turning_rows;
        leaving = leaving_rows;
        costs = costs;
        inside = inside;
      }

  headers_in : (c : ℕ) → (header_of flow n c ≡ header_of flow n 0) ⊎ (within 0 (header_of flow n c) ≡ true)
  headers_in c = by_case (header_cases flow bounded reach n is c)
    where
      by_case : (header_of flow n c ≡ flow.count) ⊎ ((header_of flow n c < flow.count) × (inner_of n (header_of flow n c) ≡ c))
          → (header_of flow n c ≡ header_of flow n 0) ⊎ (within 0 (header_of flow n c) ≡ true)
      by_case (inl e) = inl e
      by_case (inr k) = inr (lt-ltb (header_of flow n c) flow.count k.0)

  pub are_tasks : AreTasks nest (λ d. 16 - depth_of n d) (λ c. rank_of)
  are_tasks =
      levels_tasks (loops_of flow n) (edge flow) within flow.entry (depth_of n) (λ d. 16 - depth_of n d)
      (nest_loops flow bounded reach n is) is.1 (nest_order flow bounded reach n is) (flow.count + 1) (flow.count + 2) (flow.count + 1)
      (nest_ends flow bounded reach n is) nest are exact begins headers_in

  -- the tables that the code hands on
  pub tables_at : (count : ℕ) → count ≡ flow.count → (ls : List LevelRows) → ls ≡ rows
      → AreTables count (count + 1) (count + 2) n ls uses nest
  tables_at count e ls s =
      subst (λ xs. AreTables count (count + 1) (count + 2) n xs uses nest) (sym s)
      (subst (λ k. AreTables k (k + 1) (k + 2) n rows uses nest) (sym e) are_tables)

-- the numbers of the ends have 32 bits
pub fits_in : (a b : ℕ) → a ≡ b → a < 4294967293 → b + 2 < 2 ^ 32
fits_in a b e l = omega (arith, e, l)
