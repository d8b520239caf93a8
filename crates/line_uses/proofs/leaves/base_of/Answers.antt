use Rattle.std.proofs.Common.{rules, ◌∙◌}
use Rattle.std.specs.Prelude.{None}
use Rattle.line_uses.specs.PointMaps.{code_of}
use Rattle.line_uses.specs.Scopes.{cost_in, paid, scope_in}
use Rattle.line_uses.proofs.LeafLemmas.{base_is, paid_end}
use Rattle.line_uses.proofs.leaves.base_of.Goals as goal

pub returns : goal.returns
returns c =
    paid_end c.args.miss (cost_in c.args.costs.now) (code_of c.args.tables.now) (scope_in c.args.scopes.now) c.loop-point.before
    c.loop-point.point-index c.args.points.now c.loop-point.base
    (paid c.args.miss (cost_in c.args.costs.now) (code_of c.args.tables.now) (scope_in c.args.scopes.now) None c.args.points.now)
    (search rules) c.loop-point.invariant.whole
    ∙ base_is c.args.miss (cost_in c.args.costs.now) (code_of c.args.tables.now) (scope_in c.args.scopes.now) c.args.points.now
