use Rattle.std.proofs.Common.{◌≡◌, drop}
use Rattle.row_elimination.specs.Steps.{is_covered}
use Rattle.row_elimination.proofs.steps.is_covered_by.Given as goal

abbrev pub invariant-loop-other : goal.invariant-loop-other
invariant-loop-other l = is_covered (drop l.other-index l.rows) l.row ≡ is_covered l.rows l.row
