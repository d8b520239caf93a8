use Rattle.std.proofs.Common.{◌≡◌, drop}
use Rattle.farkas.specs.Deciding.{first_absurd}
use Rattle.farkas.proofs.deciding.first_absurd.Given as goal

abbrev pub invariant-loop-row : goal.invariant-loop-row
invariant-loop-row l = first_absurd (drop l.row-index l.rows) ≡ first_absurd l.rows
