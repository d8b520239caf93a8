use Rattle.std.proofs.Common.{◌∙◌, ℕ, ap, sym}
use Rattle.wsym_terms.specs.Extents.{Extent}
use Rattle.wsym_formula.specs.Terms.{term_value}
use Rattle.wsym_formula.specs.Trees.{formula_of}
use Rattle.wsym_formula.specs.declared.terms.Term.{Term}
use Rattle.simplifier.specs.Normal.{normal}
use Rattle.simplifier.specs.Simplified.{known_of}
use Rattle.report_bounds.specs.Promises.{bounds_at, printed_bounds}
use Rattle.report_bounds.proofs.KeptLemmas.{same_bounds}
use Rattle.report_bounds.proofs.formulas_are_exact.Goals as goal

pub returns : goal.returns
returns c report is values ranged =
    let formula = formula_of report.timing.miss report.tree in
    let bounds = same_bounds values report.loops in
    ap (λ (f : Term). term_value (bounds_at report values) f 1) is
    ∙ ap (λ (b : ℕ → Extent). term_value b (normal (known_of (printed_bounds report)) formula) 1) (sym bounds)
    ∙ c.simplified_terms_keep_their_value.ensures (printed_bounds report) values formula 1
    ∙ ap (λ (b : ℕ → Extent). term_value b formula 1) bounds
    ∙ c.formulas_have_the_value_of_their_trees.ensures report.timing.miss (bounds_at report values) report.tree 1
