use Rattle.std.proofs.Common.{◌≡◌, ◌<◌, drop, None}
use Rattle.std.specs.Prelude.{IfSome, unsigned_abs}
use Rattle.std.specs.Option.{option_copied}
use Rattle.farkas.specs.Deciding.{tightest}
use Rattle.farkas.proofs.deciding.tightest.Given as goal

abbrev pub invariant-loop-row : goal.invariant-loop-row
invariant-loop-row l = record {
  told : tightest l.up (option_copied l.best) (drop l.row-index l.rows) ≡ tightest l.up None l.rows;
  sized : IfSome l.best (λ s. 0 < unsigned_abs s.now.last);
}
