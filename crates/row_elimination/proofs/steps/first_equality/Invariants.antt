use Rattle.std.proofs.Common.{◌≡◌, drop}
use Rattle.row_elimination.specs.Steps.{equality_from, equality_of}
use Rattle.row_elimination.proofs.steps.first_equality.Given as goal

abbrev pub invariant-loop-row : goal.invariant-loop-row
invariant-loop-row l = record {
  told : equality_from l.rows l.first (drop l.row-index l.rows) ≡ equality_of l.rows;
  counted : l.first ≡ l.row-index;
}
