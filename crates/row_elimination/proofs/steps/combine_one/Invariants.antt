use Rattle.std.proofs.Common.{◌≡◌, drop}
use Rattle.row_elimination.specs.Steps.{matches_of}
use Rattle.row_elimination.proofs.Matching.{Progress}
use Rattle.row_elimination.proofs.steps.combine_one.Given as goal

abbrev pub invariant-loop-other : goal.invariant-loop-other
invariant-loop-other l = record {
  numbered : l.other_place ≡ l.other-index;
  progress : Progress l.var (matches_of l.var l.equality l.place l.row 0 l.rows)
      (matches_of l.var l.equality l.place l.row l.other_place (drop l.other-index l.rows)) l.made l.count l.kept.items l.fn.kept.items;
}
