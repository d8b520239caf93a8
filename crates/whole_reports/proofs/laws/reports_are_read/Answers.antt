use Rattle.whole_reports.proofs.ReportLaws.{report_bad_only}
use Rattle.whole_reports.proofs.laws.reports_are_read.Goals as goal

pub returns-clause-bad_only : goal.returns-clause-bad_only
returns-clause-bad_only c = report_bad_only
