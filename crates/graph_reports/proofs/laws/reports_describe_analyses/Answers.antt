use Rattle.graph_reports.proofs.PartLemmas.{describes, no_bounds}
use Rattle.graph_reports.proofs.laws.reports_describe_analyses.Goals as goal

pub returns-clause-describes : goal.returns-clause-describes
returns-clause-describes c image t entry stack g n p scopes rank nest params r is are parts tree =
    describes image t entry stack g n p scopes rank nest is are params r parts tree

pub returns-clause-unbounded : goal.returns-clause-unbounded
returns-clause-unbounded c = no_bounds
