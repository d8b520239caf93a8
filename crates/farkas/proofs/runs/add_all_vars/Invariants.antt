use Rattle.std.proofs.Common.{◌≡◌, drop}
use Rattle.farkas.specs.Deciding.{vars_of}
use Rattle.farkas.proofs.runs.add_all_vars.Given as goal

abbrev pub invariant-loop-row : goal.invariant-loop-row
invariant-loop-row l = vars_of l.vars.items (drop l.row-index l.rows) ≡ vars_of l.fn.vars.items l.rows
