-- The parts of a report are those of the analysis that a graph and its loops make.
use Rattle.std.proofs.Common.{◌≡◌, ℕ, suc, ◌+◌, ◌<◌, List, [], ◌∷◌, length, map, refl, sym, ap, ◌∙◌, subst, arith}
use Rattle.std.specs.Prelude.{Option, Some, slice_get}
use Rattle.std.specs.List.{AllByRecursion}
use Rattle.elf32_image.specs.Parts.{ImageValue}
use Rattle.fetch_timing.specs.declared.timing.Timing.{Timing}
use Rattle.wsym_terms.specs.declared.bounds.ParamRange.{ParamRange}
use Rattle.control_flow.specs.Instructions.{instruction_at}
use Rattle.control_flow.specs.Points.{Point, entry_point}
use Rattle.control_flow.specs.Ways.{ways_from}
use Rattle.basic_blocks.specs.Blocks.{Chain, points}
use Rattle.interval_loops.specs.declared.nest.LoopInfo.{LoopInfo}
use Rattle.interval_loops.specs.declared.nest.LoopNest.{LoopNest}
use Rattle.interval_loops.specs.Nests.{depth_or, header_or}
use Rattle.flow_graph.specs.declared.graph.BlockGraph.{BlockGraph}
use Rattle.flow_graph.specs.declared.graph.GraphPoint.{GraphPoint}
use Rattle.flow_graph.specs.Flow.{flow_in}
use Rattle.flow_graph.specs.Graphs.{IsGraphBy, IsGraphOf, graph_point, graph_points, returns_in}
use Rattle.tree_law.specs.Levels.{Nest, function_tree}
use Rattle.block_points.specs.declared.tables.BlockPoints.{BlockPoints}
use Rattle.block_points.specs.Numbering.{first_of}
use Rattle.block_points.specs.Tables.{ArePoints}
use Rattle.cycle_bounds.specs.Analyses.{Analysis}
use Rattle.graph_analyses.specs.GraphAnalyses.{analysis_of, chain_of}
use Rattle.graph_analyses.proofs.CutLemmas.{numbered, rows_length}
use Rattle.graph_analyses.proofs.NumberLemmas.{lists_agree, map_length, mapped_at, numbers_length, some_item}
use Rattle.report_lines.specs.declared.report.Report.{Report}
use Rattle.report_lines.specs.declared.report.ReportBlock.{ReportBlock}
use Rattle.report_lines.specs.declared.report.ReportLoop.{ReportLoop}
use Rattle.report_bounds.specs.Descriptions.{AreReportLoops, IsReportOf, report_block}
use Rattle.report_bounds.specs.Promises.{HasNoBounds}
use Rattle.graph_reports.specs.Parts.{HasParts, block_in, block_with, blocks_of, loop_in}

free : (xs : List LoopInfo) → AllByRecursion (λ (l : ReportLoop). l.bound.atoms ≡ []) (map loop_in xs)
free [] = tt
free (x ∷ xs) = (refl, free xs)

pub no_bounds : (t : Timing) (stack : ℕ) (g : BlockGraph) (n : LoopNest) (params : List ParamRange) (r : Report)
    → HasParts g n t stack params r → HasNoBounds r
no_bounds t stack g n params r parts =
    subst (AllByRecursion (λ (l : ReportLoop). l.bound.atoms ≡ [])) (sym parts.loops) (free n.loops)

heads : (x y : Point) (xs ys : List Point) → x ∷ xs ≡ y ∷ ys → x ≡ y
heads x y xs ys e = cc

first_of_block : (lists : List (List ℕ)) (ps : List GraphPoint) (c : Chain Point) (m : ℕ) → graph_points lists ps ≡ points c → 0 < length ps
    → m ≡ length ps → block_with lists ps ≡ record { address = c.first.address; points = m; returns = c.first.returns }
first_of_block lists [] c m same some size = absurd (omega (arith, some))
first_of_block lists (p ∷ ps) c m same some size =
    let first : graph_point lists p ≡ c.first = heads (graph_point lists p) c.first (graph_points lists ps) c.rest same in
    λ j. record { address = (first j).address; points = (sym size) j; returns = (first j).returns }

module _ (image : ImageValue) (t : Timing) (entry stack : ℕ) (g : BlockGraph) (n : LoopNest) (p : BlockPoints) (scopes : List (Option ℕ))
    (rank : ℕ → ℕ) (nest : Nest) (is : IsGraphOf image entry g) (are : ArePoints t g.blocks p) where
  abbrev a : Analysis
  a = analysis_of g n p scopes rank nest

  abbrev by : IsGraphBy (ways_from image entry) (instruction_at image) (entry_point entry) g
  by = is.graph

  blocks_are : blocks_of g ≡ map (report_block a.point) a.blocks
  blocks_are = lists_agree (blocks_of g) (map (report_block a.point) a.blocks) sizes agree
    where
      sizes : length (blocks_of g) ≡ length (map (report_block a.point) a.blocks)
      sizes =
          map_length (block_in (returns_in g.contexts)) g.blocks ∙ sym (rows_length g.blocks 0) ∙ sym (ap length are.rows)
          ∙ sym (map_length chain_of p.rows) ∙ sym (map_length (report_block a.point) a.blocks)

      agree : (i : ℕ) (x y : ReportBlock) → slice_get (blocks_of g) i ≡ Some x → slice_get (map (report_block a.point) a.blocks) i ≡ Some y
          → x ≡ y
      agree i x y e f =
          let b = mapped_at (block_in (returns_in g.contexts)) g.blocks i x e in
          let c = mapped_at (report_block a.point) a.blocks i y f in
          let h = numbered (ways_from image entry) (instruction_at image) (entry_point entry) g by t n p are i c.0 c.1 in
          let same : h.both.block ≡ b.0 = some_item h.both.block b.0 (sym h.both.there ∙ b.1) in
          let size : length (points c.0) ≡ length h.both.block.points =
          ap length h.numbers ∙ numbers_length (first_of g.blocks i) (length h.both.block.points) in
          sym b.2 ∙ ap (block_in (returns_in g.contexts)) (sym same)
          ∙ first_of_block (returns_in g.contexts) h.both.block.points h.both.chain (length (points c.0)) h.both.same h.both.some size
          ∙ ap (λ (q : Point). record { address = q.address; points = length (points c.0); returns = q.returns })
          (sym (ap (λ (z : Chain Point). z.first) h.chain))
          ∙ c.2

  loops_from : (xs : List LoopInfo) (k : ℕ) → ((j : ℕ) → slice_get n.loops (k + j) ≡ slice_get xs j)
      → AreReportLoops a (suc k) (map loop_in xs)
  loops_from [] k h = tt
  loops_from (x ∷ xs) k h =
      let place : k + 0 ≡ k = omega arith in
      let here : slice_get n.loops k ≡ Some x = subst (λ (m : ℕ). slice_get n.loops m ≡ Some x) place (h 0) in (
        sym (ap (header_or (flow_in g).count) here),
        sym (ap depth_or here),
        loops_from xs (suc k) (λ j. let e : suc k + j ≡ k + suc j = omega arith in ap (λ (m : ℕ). slice_get n.loops m) e ∙ h (suc j)),
      )

  pub describes : (params : List ParamRange) (r : Report) → HasParts g n t stack params r
      → r.tree ≡ function_tree nest (suc (a.height 0)) → IsReportOf t entry stack a r
  describes params r parts tree = record {
    entry_is = parts.entry ∙ by.entry;
    stack_is = parts.stack_is;
    timing_is = parts.timing;
    blocks = parts.blocks ∙ blocks_are;
    loops = subst (AreReportLoops a 1) (sym parts.loops) (loops_from n.loops 0 (λ j. let e : 0 + j ≡ j = omega arith in ap
        (λ (m : ℕ). slice_get n.loops m) e));
    tree = tree;
  }
