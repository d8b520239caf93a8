use Rattle.std.proofs.Common.{◌≡◌, length}
use Rattle.wsym_formula.proofs.keeping.marked.Given as goal

abbrev pub invariant-loop-done : goal.invariant-loop-done
invariant-loop-done l = length l.marks.items ≡ length l.nodes
