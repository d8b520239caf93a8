use Rattle.std.proofs.Common.{◌∙◌, ℕ, ap, sym}
use Rattle.std.specs.Prelude.{Option}
use Rattle.wsym_terms.specs.declared.trees.Tree.{Tree}
use Rattle.wsym_formula.specs.Trees.{formula_of}
use Rattle.simplifier.specs.Normal.{normal}
use Rattle.simplifier.specs.Simplified.{known_of}
use Rattle.report_bounds.specs.Promises.{printed_bounds}
use Rattle.wcet_core.proofs.ReportLemmas.{none_known}
use Rattle.wcet_core.proofs.reports.report_with.Goals as goal

pub returns-clause-formula : goal.returns-clause-formula
returns-clause-formula c =
    let r = c.in_ok-report.report in
    let miss = c.args.timing.now.miss in
    let known = none_known c.args.graph.now c.args.nest.now c.args.timing.now c.args.stack c.args.params r c.in_ok-report.ensures.parts in
    c.in_ok-report.ensures.formula ∙ c.in_ok-formula.ensures
    ∙ ap (λ (k : ℕ → Option ℕ). normal k (formula_of miss c.args.tree)) (sym known)
    ∙ ap (λ (t : Tree). normal (known_of (printed_bounds r)) (formula_of miss t)) (sym c.in_ok-report.ensures.tree)
