use Rattle.std.proofs.Common.{◌≡◌, ◌++◌, drop}
use Rattle.std.specs.Prelude.{None}
use Rattle.line_uses.specs.PointMaps.{code_of}
use Rattle.line_uses.specs.Scopes.{scope_in, uses_along}
use Rattle.line_uses.proofs.leaves.uses_in.Given as goal

abbrev pub invariant-loop-point : goal.invariant-loop-point
invariant-loop-point l = l.uses ++ uses_along (code_of l.tables) (scope_in l.scopes) l.before (drop l.point-index l.points) ≡ uses_along
    (code_of l.tables) (scope_in l.scopes) None l.points
