use Rattle.std.proofs.Common.{arith}
use Rattle.function_frames.proofs.PointLemmas.{home_is}
use Rattle.function_frames.proofs.points.home_of.Goals as goal

pub returns-else-context-eq0 : goal.returns-else-context-eq0
returns-else-context-eq0 c = home_is c.args.contexts.now c.requires.lists c.args.context c.requires.there
    (λ e. let n = c.if-context-eq0.false in omega (arith, n, e))
