use Rattle.std.proofs.Common.{◌≡◌, ◌+◌, ◌*◌, ◌^◌, ◌≤◌, drop}
use Rattle.std.specs.Prelude.{None}
use Rattle.line_uses.specs.PointMaps.{code_of}
use Rattle.line_uses.specs.Scopes.{cost_in, paid, scope_in}
use Rattle.line_uses.proofs.leaves.base_of.Given as goal

abbrev pub invariant-loop-point : goal.invariant-loop-point
invariant-loop-point l =
    record {
      whole : l.base + paid l.miss (cost_in l.costs) (code_of l.tables) (scope_in l.scopes) l.before (drop l.point-index l.points) ≡ paid
          l.miss (cost_in l.costs) (code_of l.tables) (scope_in l.scopes) None l.points;
      small : l.base ≤ l.point-index * 2 ^ 65;
    }
