use Rattle.std.proofs.Common.{length}
use Rattle.fetch_timing.proofs.set.+push.Given as goal

abbrev pub decreases-push : goal.decreases-push
decreases-push l = length l.places.now
