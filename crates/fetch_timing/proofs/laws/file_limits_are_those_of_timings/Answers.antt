use Rattle.fetch_timing.proofs.Numbers.{allowed_within}
use Rattle.fetch_timing.proofs.laws.file_limits_are_those_of_timings.Goals as goal

pub returns : goal.returns
returns c = allowed_within
