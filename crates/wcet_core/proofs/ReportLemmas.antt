-- No loop of a report without bounds has a known one; and what is so of errors.
use Rattle.std.proofs.Common.{◌≡◌, ◌∙◌, ℕ, zero, suc, ◌-◌, List, [], ◌∷◌, map, ap, refl}
use Rattle.std.specs.Prelude.{Err, IsErrOf, Option, None, slice_get}
use Rattle.fetch_timing.specs.declared.timing.Timing.{Timing}
use Rattle.wsym_terms.specs.declared.bounds.ParamRange.{ParamRange}
use Rattle.simplifier.specs.Simplified.{known_if, known_of}
use Rattle.interval_loops.specs.declared.nest.LoopInfo.{LoopInfo}
use Rattle.interval_loops.specs.declared.nest.LoopNest.{LoopNest}
use Rattle.flow_graph.specs.declared.graph.BlockGraph.{BlockGraph}
use Rattle.report_lines.specs.declared.report.Report.{Report}
use Rattle.report_lines.specs.declared.report.ReportLoop.{ReportLoop}
use Rattle.report_bounds.specs.Promises.{printed_bounds}
use Rattle.graph_reports.specs.Parts.{HasParts, loop_in}

none_there : (loops : List LoopInfo) (k : ℕ) → known_if (slice_get (map (λ (l : ReportLoop). l.bound) (map loop_in loops)) k) ≡ None
none_there [] k = refl
none_there (l ∷ loops) zero = refl
none_there (l ∷ loops) (suc k) = none_there loops k

pub none_known : (g : BlockGraph) (n : LoopNest) (t : Timing) (stack : ℕ) (params : List ParamRange) (r : Report)
    → HasParts g n t stack params r → known_of (printed_bounds r) ≡ known_of []
none_known g n t stack params r parts =
    ap (λ (loops : List ReportLoop). known_of (map (λ (l : ReportLoop). l.bound) loops)) parts.loops
    ∙ (λ i id. none_there n.loops (id - 1) i)

-- an error is the same whatever is answered where there is none
pub same_error : {A B E : Type 0} (x y : E) → IsErrOf {T = A} {E = E} (Err x) y → IsErrOf {T = B} {E = E} (Err x) y
same_error {A} {B} {E} x y is = again x y (inside x y is)
  where
    inside : (x y : E) → IsErrOf {T = A} {E = E} (Err x) y → x ≡ y
    inside x y e = cc

    again : (x y : E) → x ≡ y → IsErrOf {T = B} {E = E} (Err x) y
    again x y e = cc
