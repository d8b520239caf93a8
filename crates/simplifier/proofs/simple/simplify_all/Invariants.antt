use Rattle.std.proofs.Common.{◌≡◌, length, map, take}
use Rattle.wsym_formula.specs.Tables.{AllBelow, meaning_at, meanings}
use Rattle.simplifier.specs.Normal.{normal}
use Rattle.simplifier.specs.Simplified.{known_of}
use Rattle.simplifier.proofs.simple.simplify_all.Given as goal

abbrev pub invariant-loop-node : goal.invariant-loop-node
invariant-loop-node l = record {
  below : AllBelow (length l.table) l.numbers;
  means : map (meaning_at l.table) l.numbers ≡ map (normal (known_of l.bounds)) (meanings (take l.node-index l.nodes));
}
