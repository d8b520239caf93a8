use Rattle.report_bounds.proofs.KeptLemmas.{formula_bound}
use Rattle.report_bounds.proofs.formulas_are_bounds.Goals as goal

pub returns : goal.returns
returns c = formula_bound
