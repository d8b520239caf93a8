use Rattle.std.proofs.Common.{subst, sym, ◌<◌}
use Rattle.flow_graph.proofs.parts.block_of.Goals as goal

pub last_targets-targets-requires-clause-under : goal.last_targets-targets-requires-clause-under
last_targets-targets-requires-clause-under c i m = subst (λ n. i < n) (sym c.requires.long) (c.requires.under i m)
