use Rattle.std.proofs.Common.{◌≡◌, drop}
use Rattle.row_elimination.specs.Steps.{matches_from, matches}
use Rattle.row_elimination.proofs.Matching.{Progress}
use Rattle.row_elimination.proofs.steps.combine_all.Given as goal

abbrev pub invariant-loop-row : goal.invariant-loop-row
invariant-loop-row l = record {
  numbered : l.place ≡ l.row-index;
  progress : Progress l.var (matches l.var l.rows) (matches_from l.var l.equality l.rows l.place (drop l.row-index l.rows)) l.made l.count l.kept.items l.fn.kept.items;
}
