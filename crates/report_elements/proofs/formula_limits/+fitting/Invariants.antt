use Rattle.std.proofs.Common.{◌≡◌, drop, map}
use Rattle.report_elements.specs.Constants.{list_fits}
use Rattle.report_elements.specs.FormulaReading.{fits}
use Rattle.report_elements.specs.TreeReading.{all_fit}
use Rattle.report_elements.proofs.formula_limits.+fitting.Given as goal

abbrev pub invariant-terms_fit-loop-term : goal.invariant-terms_fit-loop-term
invariant-terms_fit-loop-term l = all_fit (map (fits l.loops list_fits) (drop l.term-index l.terms)) l.room ≡ all_fit (map (fits l.loops list_fits) l.terms) l.room
