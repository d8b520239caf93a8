use Rattle.report_elements.proofs.FormulaLaws.{formula_read}
use Rattle.report_elements.proofs.formulas.formulas_are_read.Goals as goal

pub returns : goal.returns
returns c = record { only = formula_read }
