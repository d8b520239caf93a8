use Rattle.std.proofs.Common.{◌≡◌, length}
use Rattle.farkas.specs.Points.{number_of}
use Rattle.farkas.proofs.placing.Placed.number.Given as goal

abbrev pub invariant-loop-other : goal.invariant-loop-other
invariant-loop-other l = number_of l.vars l.numbers l.var ≡ number_of l.self.vars l.self.numbers l.var

abbrev pub decreases-loop-other : goal.decreases-loop-other
decreases-loop-other l = length l.vars
