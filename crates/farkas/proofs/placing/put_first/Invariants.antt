use Rattle.std.proofs.Common.{◌≡◌, ◌∷◌, drop, ◌++◌}
use Rattle.farkas.proofs.placing.put_first.Given as goal

abbrev pub invariant-loop-other : goal.invariant-loop-other
invariant-loop-other l = l.out ++ drop l.other-index l.vars ≡ l.var ∷ l.vars
