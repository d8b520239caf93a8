use Rattle.fetch_timing.proofs.Caching.{left_by_timing}
use Rattle.fetch_timing.proofs.laws.fetch_leaves_what_the_timing_says.Goals as goal

pub returns : goal.returns
returns c = left_by_timing
