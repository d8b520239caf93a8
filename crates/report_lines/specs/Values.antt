-- The value of a report's formula at values of its parameters.
use Rattle.std.specs.Prelude.{ℕ, ℤ, ◌-◌, ◌≤ℤ◌, Option, Some, None, List, [], ◌∷◌, slice_get}
use Rattle.wsym_terms.specs.declared.bounds.ParamRange.{ParamRange}
use Rattle.wsym_terms.specs.Bounds.{bound_value}
use Rattle.wsym_terms.specs.Extents.{Extent, Infinite}
use Rattle.wsym_formula.specs.Terms.{term_value}
use Rattle.report_lines.specs.declared.report.ReportLoop.{ReportLoop}
use Rattle.report_lines.specs.declared.report.Report.{Report}

-- a value for each parameter, in its range
abbrev pub AreInRange : List ParamRange → List ℤ → Type 0
AreInRange [] [] = Unit {0}
AreInRange [] (v ∷ values) = ⊥
AreInRange (p ∷ params) [] = ⊥
AreInRange (p ∷ params) (v ∷ values) = (p.low ≤ℤ v) × (v ≤ℤ p.high) × AreInRange params values

abbrev pub loop_value : List ℤ → Option ReportLoop → Extent
loop_value values None = Infinite
loop_value values (Some each) = bound_value each.bound values

-- the value of the bound of a loop by its number, which begins at 1
abbrev pub bounds_at : Report → List ℤ → ℕ → Extent
bounds_at report values id = loop_value values (slice_get report.loops (id - 1))

-- the cycles of one execution, by the formula
abbrev pub value_of_formula : Report → List ℤ → Extent
value_of_formula report values = term_value (bounds_at report values) report.formula 1
