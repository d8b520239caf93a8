use Rattle.std.proofs.Common.{◌≡◌, ◌++◌, drop}
use Rattle.report_values.proofs.bounds.copy_bound.Given as goal

abbrev pub invariant-loop-atom : goal.invariant-loop-atom
invariant-loop-atom l = l.atoms ++ drop l.atom-index l.bound.atoms ≡ l.bound.atoms
