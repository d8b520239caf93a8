use Rattle.std.proofs.Common.{◌≡◌, drop, ◌++◌}
use Rattle.row_elimination.proofs.derived.copy.Given as goal

abbrev pub invariant-loop-term : goal.invariant-loop-term
invariant-loop-term l = l.out ++ drop l.term-index l.terms ≡ l.terms
