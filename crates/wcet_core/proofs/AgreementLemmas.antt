-- A function has one report, or refusals of one kind: each cause of a refusal is one that an earlier step of the analysis
-- would have met, or that a report excludes.
use Rattle.std.proofs.Common.{◌≡◌, ◌≢◌, ◌≤◌, ◌<◌, ℕ, inl, inr, Bool, true, Some, None, List, length, map, refl, sym, ap, subst, ◌∙◌, arith}
use Rattle.std.specs.Prelude.{nat_eq}
use Rattle.std.proofs.Math.Path.{fun_ext}
use Rattle.elf32_image.specs.Parts.{ImageValue}
use Rattle.fetch_timing.specs.declared.timing.Timing.{Timing}
use Rattle.graph_search.specs.NodeLists.{holds}
use Rattle.graph_search.specs.Rows.{row_in}
use Rattle.graph_search.specs.Walks.{Reached}
use Rattle.graph_search.specs.Flows.{Flow, IsBounded, edge, leads}
use Rattle.graph_reduction.specs.Loops.{IsIrreducible}
use Rattle.graph_reduction.specs.Reduction.{State, IsReduced}
use Rattle.interval_loops.specs.declared.nest.LoopNest.{LoopNest}
use Rattle.interval_loops.specs.declared.bodies.LoopRefusal.{LoopRefusal}
use Rattle.interval_loops.specs.declared.bodies.LoopRefusal.TheVariants as loops
use Rattle.interval_loops.specs.Nests.{IsNestOf}
use Rattle.interval_loops.specs.Tables.{IsDeeper}
use Rattle.tree_law.specs.Levels.{Nest, function_tree}
use Rattle.wsym_terms.specs.declared.bounds.ParamRange.{ParamRange}
use Rattle.wsym_terms.specs.declared.trees.BlockUses.{BlockUses}
use Rattle.wsym_terms.specs.declared.trees.Tree.{Tree}
use Rattle.wsym_terms.specs.Trees.{size_of}
use Rattle.wsym_terms.specs.TreeNesting.{tree_nesting}
use Rattle.flow_tree.specs.Descriptions.{IsTooLarge}
use Rattle.level_tables.specs.FlowLevels.{IsLevelsOf}
use Rattle.persistence.specs.PointRows.{line_at}
use Rattle.persistence.specs.Spots.{base_of_points, uses_of_points}
use Rattle.persistence.specs.Younger.{Code, HasNoScope, IsScope}
use Rattle.line_uses.specs.Leaves.{AreUsesOf}
use Rattle.line_uses.specs.PointMaps.{PointMaps, code_of, depth_of, within}
use Rattle.line_uses.specs.Scopes.{all_uses, cost_in, scope_in}
use Rattle.line_uses.specs.declared.leaves.LineUses.{LineUses}
use Rattle.flow_graph.specs.declared.graph.Block.{Block}
use Rattle.flow_graph.specs.declared.graph.BlockGraph.{BlockGraph}
use Rattle.flow_graph.specs.declared.graph.GraphRefusal.{GraphRefusal}
use Rattle.flow_graph.specs.declared.graph.GraphRefusal.TheVariants as graph
use Rattle.flow_graph.specs.Flow.{flow_in}
use Rattle.flow_graph.specs.Graphs.{IsGraphOf, IsRefusedGraph}
use Rattle.block_points.specs.declared.tables.BlockPoints.{BlockPoints}
use Rattle.block_points.specs.Tables.{ArePoints}
use Rattle.copy_facts.specs.declared.following.FrameRefusal.{FrameRefusal}
use Rattle.copy_facts.specs.declared.following.FrameRefusal.TheVariants as frames
use Rattle.copy_facts.specs.Frames.{IsRefusedFrame}
use Rattle.graph_analyses.specs.GraphAnalyses.{maps_of}
use Rattle.graph_uses.specs.GraphUses.{AreGraphUses}
use Rattle.graph_uses.specs.declared.finding.GraphUses.{GraphUses}
use Rattle.report_lines.specs.declared.report.Report.{Report}
use Rattle.wcet_core.specs.Agreement.{AreOneFrameRefusal, AreOneRefusal}
use Rattle.wcet_core.specs.Analyses.{IsAnalysed, IsFramed, IsMadeOf}
use Rattle.wcet_core.specs.Refusals.{AreRefusedLoops, HasLargeTree, HasNest, IsRefusedAnalysis}
use Rattle.wcet_core.specs.declared.refusals.AnalysisRefusal.{AnalysisRefusal}
use Rattle.wcet_core.specs.declared.refusals.AnalysisRefusal.TheVariants.{Memory, Graph, Loops, Frames, TreeTooLarge}

-- ---- uses don't depend on the order in which rows backward stand

abbrev code_with : (ℕ → ℕ → Bool) → List ℕ → Code
code_with next lines = record { next = next; line = line_at lines }

same_code : (n : LoopNest) (p q : BlockPoints) (t : Timing) (bs : List Block) → ArePoints t bs p → ArePoints t bs q
    → code_of (maps_of n p) ≡ code_of (maps_of n q)
same_code n p q t bs P Q =
    ap (λ next. code_with next p.lines)
    (fun_ext (λ x. fun_ext (λ r. sym (P.before x r)
    ∙ (ap (λ rows. holds nat_eq r (row_in rows x)) (P.next ∙ sym Q.next) ∙ Q.before x r))))
    ∙ ap (λ lines. code_with (λ x r. holds nat_eq x (row_in q.before r)) lines) (P.lines ∙ sym Q.lines)

-- the tables of one numbering with the rows backward of another
abbrev mixed : LoopNest → BlockPoints → List (List ℕ) → PointMaps
mixed n q back = record { next = q.next; before = back; lines = q.lines; home = q.home; around = n.around }

mixed_uses : (sets ways miss : ℕ) (n : LoopNest) (p q : BlockPoints) (t : Timing) (bs : List Block) (u : LineUses)
    → ArePoints t bs p → ArePoints t bs q → AreUsesOf sets ways miss (maps_of n p) p.rows p.costs u
    → AreUsesOf sets ways miss (mixed n q p.before) q.rows q.costs u
mixed_uses sets ways miss n p q t bs u P Q are =
    subst (λ costs. AreUsesOf sets ways miss (mixed n q p.before) q.rows costs u) (P.costs ∙ sym Q.costs)
    (subst (λ rows. AreUsesOf sets ways miss (mixed n q p.before) rows p.costs u) (P.rows ∙ sym Q.rows)
    (subst (λ home. AreUsesOf sets ways miss (record { next = q.next; before = p.before; lines = q.lines; home = home; around = n.around }) p.rows p.costs u)
    (P.home ∙ sym Q.home)
    (subst (λ lines. AreUsesOf sets ways miss (record { next = q.next; before = p.before; lines = lines; home = p.home; around = n.around }) p.rows p.costs u)
    (P.lines ∙ sym Q.lines)
    (subst (λ next. AreUsesOf sets ways miss (record { next = next; before = p.before; lines = p.lines; home = p.home; around = n.around }) p.rows p.costs u)
    (P.next ∙ sym Q.next) are))))

uses_turned : (sets ways miss : ℕ) (n : LoopNest) (p q : BlockPoints) (t : Timing) (bs : List Block) (u : LineUses)
    → ArePoints t bs p → ArePoints t bs q → AreUsesOf sets ways miss (maps_of n p) p.rows p.costs u
    → AreUsesOf sets ways miss (maps_of n q) q.rows q.costs u
uses_turned sets ways miss n p q t bs u P Q are =
    let m = maps_of n q in
    let mid = mixed_uses sets ways miss n p q t bs u P Q are in
    let codes : code_of (mixed n q p.before) ≡ code_of m =
    ap (λ next. code_with next q.lines)
    (fun_ext (λ x. fun_ext (λ r. sym (P.before x r)
    ∙ (ap (λ rows. holds nat_eq r (row_in rows x)) (P.next ∙ sym Q.next) ∙ Q.before x r)))) in
    record {
      scopes = record {
        found = λ x d e. subst (λ c. IsScope c sets ways (within m x) (depth_of m x) x d) codes (mid.scopes.found x d e);
        none = λ x h e. subst (λ c. HasNoScope c sets ways (within m x) (depth_of m x) x) codes
            (mid.scopes.none x (subst (λ c. holds nat_eq x (all_uses c q.rows) ≡ true) (sym codes) h) e);
      };
      blocks = mid.blocks ∙ ap (λ c. map (λ ps. record {
        base = base_of_points miss (cost_in q.costs) c (scope_in u.scopes) ps;
        uses = uses_of_points c (scope_in u.scopes) ps;
      }) q.rows) codes;
    }

-- a law of line_uses
abbrev UsesAgree : Type 0
UsesAgree = (sets ways miss : ℕ) (m : PointMaps) (rows : List (List ℕ)) (costs : List ℕ) (u v : LineUses)
    → AreUsesOf sets ways miss m rows costs u → AreUsesOf sets ways miss m rows costs v → u.blocks ≡ v.blocks

same_blocks : UsesAgree → (t : Timing) (g : BlockGraph) (n : LoopNest) (u v : GraphUses) → AreGraphUses t g n u
    → AreGraphUses t g n v → u.uses.blocks ≡ v.uses.blocks
same_blocks agree t g n u v U V =
    agree t.sets t.ways t.miss (maps_of n v.points) v.points.rows v.points.costs u.uses v.uses
    (uses_turned t.sets t.ways t.miss n u.points v.points t g.blocks u.uses U.points V.points U.uses) V.uses

-- ---- laws of the layers below

pub record Laws (image : ImageValue) (entry : ℕ) : Type 0 where
  pub one_graph : (g h : BlockGraph) → IsGraphOf image entry g → IsGraphOf image entry h → g ≡ h
  pub no_graph : (g : BlockGraph) (r : GraphRefusal) → IsGraphOf image entry g → IsRefusedGraph image entry r
      → r ≡ graph.Memory
  pub one_refusal : (r s : GraphRefusal) → IsRefusedGraph image entry r → IsRefusedGraph image entry s
      → (r ≡ graph.Memory → ⊥) → (s ≡ graph.Memory → ⊥) → r ≡ s
  pub bounded : (g : BlockGraph) → IsGraphOf image entry g → IsBounded (flow_in g)
  pub reached : (g : BlockGraph) → IsGraphOf image entry g → (b : ℕ) → b < (flow_in g).count
      → Reached (leads (edge (flow_in g))) (flow_in g).entry b
  pub one_nest : (flow : Flow) (n m : LoopNest) → IsBounded flow
      → ((b : ℕ) → b < flow.count → Reached (leads (edge flow)) flow.entry b) → IsNestOf flow n → IsNestOf flow m → n ≡ m
  pub not_refused : (flow : Flow) (n : LoopNest) (s : State) → IsBounded flow
      → ((b : ℕ) → b < flow.count → Reached (leads (edge flow)) flow.entry b) → IsNestOf flow n → IsReduced flow s
      → (IsIrreducible flow s.closed → ⊥) × (IsDeeper flow s.closed 16 → ⊥)
  pub one_state : (flow : Flow) (s t : State) → IsReduced flow s → IsReduced flow t → s ≡ t
  pub uses : (sets ways miss : ℕ) (m : PointMaps) (rows : List (List ℕ)) (costs : List ℕ) (u v : LineUses)
      → AreUsesOf sets ways miss m rows costs u → AreUsesOf sets ways miss m rows costs v → u.blocks ≡ v.blocks
  pub one_tree : (flow : Flow) (n : LoopNest) (uses : List BlockUses) (a b : Nest) → IsLevelsOf flow n uses a
      → IsLevelsOf flow n uses b → (k : ℕ) → function_tree a k ≡ function_tree b k

module _ (image : ImageValue) (t : Timing) (entry stack : ℕ) (laws : Laws image entry) where
  graph_excluded : (why : GraphRefusal) (g : BlockGraph) → IsGraphOf image entry g → why ≢ graph.Memory
      → IsRefusedGraph image entry why → ⊥
  graph_excluded why g of free is = free (laws.no_graph g why of is)

  loops_excluded : (why : LoopRefusal) (g h : BlockGraph) (n : LoopNest) → IsGraphOf image entry g → IsGraphOf image entry h
      → IsNestOf (flow_in h) n → why ≢ loops.Memory → AreRefusedLoops (flow_in g) why → ⊥
  loops_excluded why g h n of of_h nest free is =
      by_cause why free (subst (λ x. AreRefusedLoops (flow_in x) why) (laws.one_graph g h of of_h) is)
    where
      by_cause : (why : LoopRefusal) → why ≢ loops.Memory → AreRefusedLoops (flow_in h) why → ⊥
      by_cause loops.Memory free is = free refl
      by_cause loops.Irreducible free (s, reduced, cyclic) =
          (laws.not_refused (flow_in h) n s (laws.bounded h of_h) (laws.reached h of_h) nest reduced).0 cyclic
      by_cause loops.TooDeep free (s, reduced, uncut, deep) =
          (laws.not_refused (flow_in h) n s (laws.bounded h of_h) (laws.reached h of_h) nest reduced).1 deep

  one_loop_refusal : (why other : LoopRefusal) (g h : BlockGraph) → IsGraphOf image entry g → IsGraphOf image entry h
      → why ≢ loops.Memory → other ≢ loops.Memory → AreRefusedLoops (flow_in g) why → AreRefusedLoops (flow_in h) other
      → why ≡ other
  one_loop_refusal why other g h of of_h free free2 is is2 =
      by_cause why other free free2 (subst (λ x. AreRefusedLoops (flow_in x) why) (laws.one_graph g h of of_h) is) is2
    where
      by_cause : (why other : LoopRefusal) → why ≢ loops.Memory → other ≢ loops.Memory → AreRefusedLoops (flow_in h) why
          → AreRefusedLoops (flow_in h) other → why ≡ other
      by_cause loops.Memory other free free2 is is2 = absurd (free refl)
      by_cause why loops.Memory free free2 is is2 = absurd (free2 refl)
      by_cause loops.Irreducible loops.Irreducible free free2 is is2 = refl
      by_cause loops.TooDeep loops.TooDeep free free2 is is2 = refl
      by_cause loops.Irreducible loops.TooDeep free free2 (s, reduced, cyclic) (z, reduced2, uncut, deep) =
          absurd (uncut (subst (λ (x : State). IsIrreducible (flow_in h) x.closed) (laws.one_state (flow_in h) s z reduced reduced2) cyclic))
      by_cause loops.TooDeep loops.Irreducible free free2 (s, reduced, uncut, deep) (z, reduced2, cyclic) =
          absurd (uncut (subst (λ (x : State). IsIrreducible (flow_in h) x.closed) (laws.one_state (flow_in h) z s reduced2 reduced) cyclic))

  frames_excluded : (why : FrameRefusal) → IsFramed image entry stack → why ≢ frames.Memory
      → IsRefusedFrame image entry stack why → ⊥
  frames_excluded frames.Memory framed free is = free refl
  frames_excluded (frames.Lost a) framed free (p, lost, at) = framed.lost p lost
  frames_excluded (frames.Over a o) framed free (none, over) = framed.over over.at o over.over
  frames_excluded (frames.Unproved a) framed free (none, no_over, unproved) =
      framed.unproved unproved.at unproved.unproved

  one_frame_refusal : (why other : FrameRefusal) → why ≢ frames.Memory → other ≢ frames.Memory
      → IsRefusedFrame image entry stack why → IsRefusedFrame image entry stack other → AreOneFrameRefusal why other
  one_frame_refusal frames.Memory other free free2 is is2 = absurd (free refl)
  one_frame_refusal why frames.Memory free free2 is is2 = absurd (free2 refl)
  one_frame_refusal (frames.Lost a) (frames.Lost b) free free2 is is2 = tt
  one_frame_refusal (frames.Lost a) (frames.Over b o) free free2 (p, lost, at) is2 = absurd (is2.0 p lost)
  one_frame_refusal (frames.Lost a) (frames.Unproved b) free free2 (p, lost, at) is2 = absurd (is2.0 p lost)
  one_frame_refusal (frames.Over a o) (frames.Lost b) free free2 is (p, lost, at) = absurd (is.0 p lost)
  one_frame_refusal (frames.Over a o) (frames.Over b k) free free2 is is2 = tt
  one_frame_refusal (frames.Over a o) (frames.Unproved b) free free2 (none, over) (none2, no_over, unproved) =
      absurd (no_over over.at o over.over)
  one_frame_refusal (frames.Unproved a) (frames.Lost b) free free2 is (p, lost, at) = absurd (is.0 p lost)
  one_frame_refusal (frames.Unproved a) (frames.Over b o) free free2 (none, no_over, unproved) (none2, over) =
      absurd (no_over over.at o over.over)
  one_frame_refusal (frames.Unproved a) (frames.Unproved b) free free2 is is2 = tt

  -- the tree of a report, and levels that are too large
  large_excluded : (params : List ParamRange) (r : Report) (g : BlockGraph) (n : LoopNest) → IsGraphOf image entry g
      → IsNestOf (flow_in g) n → IsMadeOf t stack params g n r → HasLargeTree t g n → ⊥
  large_excluded params r g n of nest made (u, are, (levels, is, large)) =
      past (subst IsTooLarge (one ∙ sym made.tree.2) large)
    where
      blocks : u.uses.blocks ≡ made.uses.uses.blocks
      blocks = same_blocks laws.uses t g n u made.uses are made.are_uses

      one : function_tree levels 17 ≡ function_tree made.tree.0 17
      one =
          laws.one_tree (flow_in g) n made.uses.uses.blocks levels made.tree.0
          (subst (λ blocks. IsLevelsOf (flow_in g) n blocks levels) blocks is) made.tree.1 17

      past : IsTooLarge r.tree → ⊥
      past (inl size) = let most = made.size in omega (arith, size, most)
      past (inr deep) = let most = made.nesting in omega (arith, deep, most)

  tree_excluded : (params : List ParamRange) (r : Report) (g h : BlockGraph) (n m : LoopNest) → IsGraphOf image entry g
      → IsGraphOf image entry h → IsNestOf (flow_in g) n → IsNestOf (flow_in h) m → IsMadeOf t stack params g n r
      → HasLargeTree t h m → ⊥
  tree_excluded params r g h n m of of_h nest nest_h made large =
      let same : h ≡ g = laws.one_graph h g of_h of in
      let nest_g : IsNestOf (flow_in g) m = subst (λ x. IsNestOf (flow_in x) m) same nest_h in
      let nests : m ≡ n = laws.one_nest (flow_in g) m n (laws.bounded g of) (laws.reached g of) nest_g nest in
      large_excluded params r g n of nest made
      (subst (λ x. HasLargeTree t g x) nests (subst (λ x. HasLargeTree t x m) same large))

  pub none : (params : List ParamRange) (r : Report) (why : AnalysisRefusal) → IsAnalysed image t entry stack params r
      → IsRefusedAnalysis image t entry stack why → why ≡ Memory
  none params r Memory is refused = refl
  none params r (Graph why) is (free, refused) = absurd (graph_excluded why is.graph is.is_graph free refused)
  none params r (Loops why) is (free, (g, of, refused)) =
      absurd (loops_excluded why g is.graph is.nest of is.is_graph is.is_nest free refused)
  none params r (Frames why) is (free, nest, refused) = absurd (frames_excluded why is.framed free refused)
  none params r TreeTooLarge is (framed, (g, of, (n, nest, large))) =
      absurd (tree_excluded params r is.graph g is.nest n is.is_graph of is.is_nest nest is.made large)

  pub one : (why other : AnalysisRefusal) → IsRefusedAnalysis image t entry stack why
      → IsRefusedAnalysis image t entry stack other → why ≢ Memory → other ≢ Memory → AreOneRefusal why other
  one Memory other is is2 free free2 = absurd (free refl)
  one why Memory is is2 free free2 = absurd (free2 refl)
  one (Graph why) (Graph other) (some, is) (some2, is2) free free2 = laws.one_refusal why other is is2 some some2
  one (Graph why) (Loops other) (some, is) (some2, (g, of, is2)) free free2 = absurd (graph_excluded why g of some is)
  one (Graph why) (Frames other) (some, is) (some2, (g, of, nest), is2) free free2 = absurd (graph_excluded why g of some is)
  one (Graph why) TreeTooLarge (some, is) (framed, (g, of, rest)) free free2 = absurd (graph_excluded why g of some is)
  one (Loops why) (Graph other) (some2, (g, of, is2)) (some, is) free free2 = absurd (graph_excluded other g of some is)
  one (Loops why) (Loops other) (some, (g, of, is)) (some2, (h, of_h, is2)) free free2 =
      one_loop_refusal why other g h of of_h some some2 is is2
  one (Loops why) (Frames other) (some, (g, of, is)) (some2, (h, of_h, (n, nest)), is2) free free2 =
      absurd (loops_excluded why g h n of of_h nest some is)
  one (Loops why) TreeTooLarge (some, (g, of, is)) (framed, (h, of_h, (n, nest, large))) free free2 =
      absurd (loops_excluded why g h n of of_h nest some is)
  one (Frames why) (Graph other) (some2, (g, of, nest), is2) (some, is) free free2 = absurd (graph_excluded other g of some is)
  one (Frames why) (Loops other) (some2, (h, of_h, (n, nest)), is2) (some, (g, of, is)) free free2 =
      absurd (loops_excluded other g h n of of_h nest some is)
  one (Frames why) (Frames other) (some, nest, is) (some2, nest2, is2) free free2 = one_frame_refusal why other some some2 is is2
  one (Frames why) TreeTooLarge (some, nest, is) (framed, rest) free free2 = absurd (frames_excluded why framed some is)
  one TreeTooLarge (Graph other) (framed, (g, of, rest)) (some, is) free free2 = absurd (graph_excluded other g of some is)
  one TreeTooLarge (Loops other) (framed, (h, of_h, (n, nest, large))) (some, (g, of, is)) free free2 =
      absurd (loops_excluded other g h n of of_h nest some is)
  one TreeTooLarge (Frames other) (framed, rest) (some, nest, is) free free2 = absurd (frames_excluded other framed some is)
  one TreeTooLarge TreeTooLarge is is2 free free2 = tt
