-- The value of a report's formula at values by name.
use Rattle.std.specs.Prelude.{◌≡◌, ℤ, List, length, map, All, Ok}
use Rattle.wsym_terms.specs.Bounds.{AtomFits}
use Rattle.wsym_terms.specs.Costs.{cost_of}
use Rattle.wsym_terms.specs.declared.bounds.Bound.{Bound}
use Rattle.wsym_terms.specs.declared.costs.Cost.{Cost}
use Rattle.command_words.specs.declared.valuations.NamedValue.{NamedValue}
use Rattle.report_lines.specs.declared.report.ReportLoop.{ReportLoop}
use Rattle.report_lines.specs.declared.report.Report.{Report}
use Rattle.report_lines.specs.Values.{AreInRange, value_of_formula}
use Rattle.report_values.specs.Naming.{named_values}

abbrev pub bounds_of : List ReportLoop → List Bound
bounds_of = map (λ (l : ReportLoop). l.bound)

-- the atoms of all bounds are over the report's parameters, with numbers within the limits
abbrev pub HasFittingBounds : Report → Type 0
HasFittingBounds report = All (λ (b : Bound). All (AtomFits (length report.params)) b.atoms) (bounds_of report.loops)

-- The values give each parameter a number in its range, where the formula has this value.
pub record IsValueAt (report : Report) (values : List NamedValue) (cost : Cost) : Type 0 where
  pub at : List ℤ
  pub named : named_values report.params values ≡ Ok at
  pub ranged : AreInRange report.params at
  pub value : cost ≡ cost_of (value_of_formula report at)
