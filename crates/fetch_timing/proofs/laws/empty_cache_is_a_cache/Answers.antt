use Rattle.fetch_timing.proofs.Caching.{empty_kept}
use Rattle.fetch_timing.proofs.laws.empty_cache_is_a_cache.Goals as goal

pub returns : goal.returns
returns c = empty_kept
