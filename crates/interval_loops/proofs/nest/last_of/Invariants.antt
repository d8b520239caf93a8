use Rattle.std.proofs.Common.{◌≡◌, take}
use Rattle.interval_loops.specs.Rounds.{last_or}
use Rattle.interval_loops.proofs.nest.last_of.Given as goal

abbrev pub invariant-loop-number : goal.invariant-loop-number
invariant-loop-number l = l.last ≡ last_or 0 (take l.number-index l.row)
