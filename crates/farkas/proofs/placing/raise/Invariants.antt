use Rattle.std.proofs.Common.{◌≡◌, false, length}
use Rattle.farkas.specs.Placing.{raised, raised_fits}
use Rattle.farkas.proofs.placing.raise.Given as goal

abbrev pub invariant-loop-level : goal.invariant-loop-level
invariant-loop-level l = record {
  told : raised l.left l.point ≡ raised l.fn.levels l.fn.start;
  fits : raised_fits l.left l.point ≡ false → raised_fits l.fn.levels l.fn.start ≡ false;
}

abbrev pub decreases-loop-level : goal.decreases-loop-level
decreases-loop-level l = length l.left
