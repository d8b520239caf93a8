use Rattle.std.proofs.Common.{take}
use Rattle.wsym_formula.specs.Tables.{meanings}
use Rattle.wsym_formula.specs.Keeping.{AllKept}
use Rattle.wsym_formula.proofs.keeping.keep_marked.Given as goal

abbrev pub invariant-loop-at : goal.invariant-loop-at
invariant-loop-at l = AllKept l.table l.numbers (meanings (take l.at l.nodes))
