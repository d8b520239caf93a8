use Rattle.std.proofs.Common.{◌∙◌, ap, sym}
use Rattle.fetch_timing.specs.declared.timing.Timing.{Timing}
use Rattle.simplifier.specs.Normal.{normal}
use Rattle.simplifier.specs.Simplified.{known_of}
use Rattle.wsym_formula.specs.Trees.{formula_of}
use Rattle.graph_analyses.specs.GraphAnalyses.{analysis_of}
use Rattle.report_bounds.specs.Promises.{printed_bounds}
use Rattle.fetch_timing.proofs.Limits.{some_set}
use Rattle.graph_reports.proofs.laws.graph_reports_are_kept.Goals as goal

pub returns : goal.returns
returns c image t entry stack g n p u nest params r word small limits graph nested followed points uses levels parts tree formula =
    let analysed = c.graphs_are_analyses.ensures image t entry g n p u nest graph nested points uses levels in
    let a = analysis_of g n p u.scopes analysed.0 nest in
    let of =
    c.reports_describe_analyses.ensures.describes image t entry stack g n p u.scopes analysed.0 nest params r graph points parts tree in
    let none = c.reports_describe_analyses.ensures.unbounded t stack g n params r parts in
    let turns = c.no_bounds_are_kept.ensures image r a none in
    record {
      describes = (a, analysed.1, of);
      exact =
          c.formulas_are_exact.ensures r
          (formula ∙ ap (λ (k : Timing). normal (known_of (printed_bounds r)) (formula_of k.miss r.tree)) (sym parts.timing));
      bound =
          c.reports_are_bounds.ensures image t entry stack a r word small (some_set t limits) limits.some_way followed analysed.1 of turns;
    }
