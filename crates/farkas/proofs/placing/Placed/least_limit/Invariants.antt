use Rattle.std.proofs.Common.{◌≡◌, ◌<◌, drop, None, false}
use Rattle.std.specs.Prelude.{IfSome}
use Rattle.farkas.specs.Placing.{least_limit, limits_fit}
use Rattle.farkas.proofs.placing.Placed.least_limit.Given as goal

abbrev pub invariant-loop-row : goal.invariant-loop-row
invariant-loop-row l = record {
  told : least_limit l.up l.var l.self l.least (drop l.row-index l.rows) ≡ least_limit l.up l.var l.self None l.rows;
  fits : limits_fit l.up l.var l.self (drop l.row-index l.rows) ≡ false → limits_fit l.up l.var l.self l.rows ≡ false;
  sized : IfSome l.least (λ x. 0 < x.size);
}
