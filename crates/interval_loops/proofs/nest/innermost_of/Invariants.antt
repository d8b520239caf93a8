use Rattle.std.proofs.Common.{◌≡◌, take, map}
use Rattle.interval_loops.specs.Rounds.{last_or}
use Rattle.interval_loops.proofs.nest.innermost_of.Given as goal

abbrev pub invariant-loop-row : goal.invariant-loop-row
invariant-loop-row l = l.innermost ≡ map (last_or 0) (take l.row-index l.around)
