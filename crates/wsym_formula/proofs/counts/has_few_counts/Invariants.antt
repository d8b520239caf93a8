use Rattle.std.proofs.Common.{◌≡◌, ◌<◌, ◌^◌, ℕ, get_or, map, take}
use Rattle.wsym_formula.specs.Tables.{meanings}
use Rattle.wsym_formula.specs.Values.{counts_of}
use Rattle.wsym_formula.proofs.CountLaws.{AreCounts}
use Rattle.wsym_formula.proofs.counts.has_few_counts.Given as goal

abbrev pub invariant-loop-node : goal.invariant-loop-node
invariant-loop-node l = AreCounts (take l.node-index l.node-items) l.counts.items
