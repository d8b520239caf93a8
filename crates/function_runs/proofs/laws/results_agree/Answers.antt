use Rattle.function_runs.proofs.Outcomes.{outcome_alone}
use Rattle.function_runs.proofs.laws.results_agree.Goals as goal

pub returns : goal.returns
returns c = outcome_alone c.runs_agree.ensures
