use Rattle.std.proofs.Common.{◌≡◌, drop, ◌++◌}
use Rattle.row_elimination.specs.Derivations.{given_from, EachCollected}
use Rattle.farkas.proofs.entailment.given.Given as goal

abbrev pub invariant-loop-row : goal.invariant-loop-row
invariant-loop-row l = record {
  told : l.out.items ++ given_from l.place (drop l.row-index l.rows) ≡ given_from 0 l.rows;
  numbered : l.place ≡ l.row-index;
  collected : EachCollected l.out.items;
}
