-- A report keeps its promises.
use Rattle.std.proofs.Common.{◌≡◌, ℕ, zero, suc, ◌-◌, ◌<◌, ◌^◌, ℤ, List, [], ◌∷◌, map, refl, sym, ap, subst}
use Rattle.std.specs.Prelude.{slice_get}
use Rattle.std.specs.List.{AllByRecursion}
use Rattle.elf32_image.specs.Parts.{ImageValue}
use Rattle.fetch_timing.specs.declared.timing.Timing.{Timing}
use Rattle.wsym_terms.specs.declared.trees.Tree.{Tree}
use Rattle.wsym_terms.specs.Bounds.{least_atom}
use Rattle.wsym_terms.specs.Extents.{Extent, Infinite, IsWithin}
use Rattle.wsym_terms.specs.Trees.{tree_value}
use Rattle.wsym_formula.specs.Values.{bound_at, value_if}
use Rattle.path_facts.specs.Histories.{IsFollowed}
use Rattle.interval_loops.specs.Counts.{count}
use Rattle.report_lines.specs.declared.report.Report.{Report}
use Rattle.report_lines.specs.declared.report.ReportLoop.{ReportLoop}
use Rattle.cycle_bounds.specs.Analyses.{Analysis, flow_of}
use Rattle.cycle_bounds.specs.Functions.{IsAnalysisOf}
use Rattle.cycle_bounds.specs.Turns.{CountsWithin}
use Rattle.cycle_bounds.proofs.RunBoundLemmas.{run_bound}
use Rattle.report_bounds.specs.Descriptions.{IsReportOf}
use Rattle.report_bounds.specs.Promises.{HasNoBounds, IsBound, IsExact, IsFormulaBound, KeepsTurns, bounds_at, loop_value, numbers_of}

pub report_bound : (image : ImageValue) (t : Timing) (entry stack : ℕ) (a : Analysis) (report : Report) → entry < 2 ^ 32 → stack < 2 ^ 31
    → 0 < t.sets → 0 < t.ways → IsFollowed image entry stack → IsAnalysisOf image t entry a → IsReportOf t entry stack a report
    → KeepsTurns image report a → IsBound image report
report_bound image t entry stack a report word small some any followed is of turns values ranged s n c start returns =
    let followed_here : IsFollowed image report.entry report.stack =
    subst (λ (k : ℕ). IsFollowed image report.entry k) (sym of.stack_is) (subst
    (λ (k : ℕ). IsFollowed image k stack) (sym of.entry_is) followed) in
    let is_here : IsAnalysisOf image report.timing report.entry a =
    subst (λ (k : ℕ). IsAnalysisOf image report.timing k a) (sym of.entry_is)
    (subst (λ (u : Timing). IsAnalysisOf image u entry a) (sym of.timing_is) is) in
    let some_here : 0 < report.timing.sets = subst (λ (u : Timing). 0 < u.sets) (sym of.timing_is) some in
    let any_here : 0 < report.timing.ways = subst (λ (u : Timing). 0 < u.ways) (sym of.timing_is) any in
    let word_here : report.entry < 2 ^ 32 = subst (λ (k : ℕ). k < 2 ^ 32) (sym of.entry_is) word in
    let small_here : report.stack < 2 ^ 31 = subst (λ (k : ℕ). k < 2 ^ 31) (sym of.stack_is) small in
    subst (λ (tree : Tree). IsWithin c (tree_value report.timing.miss (bounds_at report values) tree 1)) (sym of.tree)
    (run_bound image report.timing report.entry report.stack (numbers_of report.params values) s n c a (bounds_at report values) word_here
    small_here some_here any_here followed_here is_here start (turns values ranged s start) returns)

pub formula_bound : (image : ImageValue) (report : Report) → IsExact report → IsBound image report → IsFormulaBound image report
formula_bound image report exact bound values ranged s n c start returns =
    subst (λ (e : Extent). IsWithin c e) (sym (exact values ranged)) (bound values ranged s n c start returns)

-- ---- without bounds

no_bound : (values : List ℤ) (loops : List ReportLoop) (k : ℕ) → AllByRecursion (λ (l : ReportLoop). l.bound.atoms ≡ []) loops
    → loop_value values (slice_get loops k) ≡ Infinite
no_bound values [] k all = refl
no_bound values (l ∷ loops) zero all = ap (least_atom values) all.0
no_bound values (l ∷ loops) (suc k) all = no_bound values loops k all.1

counts_free : (bounds : ℕ → Extent) (a : Analysis) → ((c : ℕ) → bounds c ≡ Infinite) → (bs rest : List ℕ) → CountsWithin bounds a bs rest
counts_free bounds a free bs [] = tt
counts_free bounds a free bs (b ∷ rest) = (
  (λ c ne i. subst (λ (e : Extent). IsWithin (count (flow_of a) c (b ∷ bs)) e) (sym (free c)) tt),
  counts_free bounds a free (b ∷ bs) rest,
)

pub unbounded_keeps : (image : ImageValue) (report : Report) (a : Analysis) → HasNoBounds report → KeepsTurns image report a
unbounded_keeps image report a none values ranged s start route starts is_route states bs listed same =
    counts_free (bounds_at report values) a (λ c. no_bound values report.loops (c - 1) none) [] bs

-- ---- the formula

same_bound : (values : List ℤ) (loops : List ReportLoop) (k : ℕ)
    → value_if (slice_get (map (λ (l : ReportLoop). l.bound) loops) k) values ≡ loop_value values (slice_get loops k)
same_bound values [] k = refl
same_bound values (l ∷ loops) zero = refl
same_bound values (l ∷ loops) (suc k) = same_bound values loops k

-- the bounds of a report are those of the list of its printed bounds
pub same_bounds : (values : List ℤ) (loops : List ReportLoop)
    → ◌≡◌ {A = ℕ → Extent} (bound_at (map (λ (l : ReportLoop). l.bound) loops) values) (λ id. loop_value values (slice_get loops (id - 1)))
same_bounds values loops = λ i id. same_bound values loops (id - 1) i
