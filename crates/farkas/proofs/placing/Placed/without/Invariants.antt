use Rattle.std.proofs.Common.{◌≡◌, drop, false}
use Rattle.farkas.specs.Placing.{slack_from, slack_fits_from}
use Rattle.farkas.proofs.placing.Placed.without.Given as goal

abbrev pub invariant-loop-term : goal.invariant-loop-term
invariant-loop-term l = record {
  told : slack_from l.left l.self (drop l.term-index l.terms) ≡ slack_from l.rest l.self l.terms;
  fits : slack_fits_from l.left l.self (drop l.term-index l.terms) ≡ false → slack_fits_from l.rest l.self l.terms ≡ false;
}
