use Rattle.std.proofs.Common.{◌≡◌, ℕ, List, [], replicate}
use Rattle.fetch_timing.proofs.cache.LruCache.new.Given as goal

abbrev pub invariant-loop : goal.invariant-loop
invariant-loop l = l.sets.items ≡ replicate {A = List ℕ} l.counter []
