use Rattle.std.proofs.Common.{arith}
use Rattle.fetch_timing.proofs.Fetching.{distinct_places, used_within}
use Rattle.fetch_timing.proofs.set.CacheSet.fetch.Goals as goal

pub invariant_of-self : goal.invariant_of-self
invariant_of-self c = (
  omega arith,
  distinct_places c.self.inside.used c.fetch-outcome.result.used c.args.ways c.args.line _ c.self.inside.places c.fetch-outcome.new.places _ c.fetch-outcome.ensures.after
      (used_within c.self.inside.used c.args.ways c.self.inside.places c.args.self.now c.self.view_is (omega arith) c.requires.few) c.self.invariant.1 (omega arith),
)
