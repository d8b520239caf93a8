use Rattle.report_values.proofs.Fitting.{fitting_bounds}
use Rattle.report_values.proofs.laws.read_reports_fit.Goals as goal

pub returns : goal.returns
returns c = fitting_bounds
