use Rattle.std.proofs.Common.{rules}
use Rattle.line_uses.specs.PointMaps.{code_of}
use Rattle.line_uses.specs.Scopes.{scope_in}
use Rattle.line_uses.proofs.LeafLemmas.{uses_end}
use Rattle.line_uses.proofs.leaves.uses_in.Goals as goal

pub returns : goal.returns
returns c = uses_end (code_of c.args.tables.now) (scope_in c.args.scopes.now) c.loop-point.before c.loop-point.point-index c.args.points.now
    c.loop-point.uses (search rules) c.loop-point.invariant
