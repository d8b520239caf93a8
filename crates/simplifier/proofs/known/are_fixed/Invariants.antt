use Rattle.std.proofs.Common.{◌≡◌, drop}
use Rattle.simplifier.specs.Simplified.{are_fixed}
use Rattle.simplifier.proofs.known.are_fixed.Given as goal

abbrev pub invariant-loop-atom : goal.invariant-loop-atom
invariant-loop-atom l = are_fixed (drop l.atom-index l.atoms) ≡ are_fixed l.atoms
