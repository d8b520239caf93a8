use Rattle.report_bounds.proofs.KeptLemmas.{report_bound}
use Rattle.report_bounds.proofs.reports_are_bounds.Goals as goal

pub returns : goal.returns
returns c = report_bound
