use Rattle.std.proofs.Common.{rules}
use Rattle.point_tables.proofs.SourceLemmas.{none_flagged}
use Rattle.point_tables.proofs.liveness.no_flags.Goals as goal

pub returns : goal.returns
returns c = none_flagged c.args.count c.loop-flags.flags.items (search rules) (λ i l. c.loop-flags.invariant.none i)
