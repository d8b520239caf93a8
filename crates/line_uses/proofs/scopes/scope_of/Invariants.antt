use Rattle.std.proofs.Common.{◌-◌, ◌≡◌, ◌<◌, ◌≤◌, length}
use Rattle.line_uses.specs.PointMaps.{ArePointMaps}
use Rattle.line_uses.specs.Scopes.{IsBetween}
use Rattle.line_uses.specs.SearchSteps.{AreForward}
use Rattle.line_uses.proofs.scopes.scope_of.Given as goal

abbrev pub invariant-loop-low : goal.invariant-loop-low
invariant-loop-low l =
    record {
      order : l.low ≤ l.high;
      small : l.high < 17;
      between : ArePointMaps l.tables → IsBetween l.sets l.ways l.tables l.point l.low l.high;
      back : l.marks.count ≡ length l.tables.home;
      forward : AreForward l.tables l.forward;
    }

abbrev pub decreases-loop-low : goal.decreases-loop-low
decreases-loop-low l = l.high - l.low
