use Rattle.fetch_timing.proofs.Caching.{cost_by_timing}
use Rattle.fetch_timing.proofs.laws.fetch_costs_what_the_timing_says.Goals as goal

pub returns : goal.returns
returns c = cost_by_timing
