use Rattle.fetch_timing.proofs.Caching.{kept}
use Rattle.fetch_timing.proofs.laws.fetch_keeps_a_cache.Goals as goal

pub returns : goal.returns
returns c = kept
