use Rattle.std.proofs.Common.{arith}
use Rattle.fetch_timing.proofs.Tabling.{empty_after}
use Rattle.fetch_timing.proofs.cache.LruCache.new.Goals as goal

pub invariant_of-result : goal.invariant_of-result
invariant_of-result c = empty_after c.args.timing.now c.loop.counter c.loop.sets.items c.requires c.loop.invariant (omega arith) (omega arith)
