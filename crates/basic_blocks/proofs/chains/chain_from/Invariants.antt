use Rattle.std.proofs.Common.{◌-◌, length}
use Rattle.basic_blocks.proofs.ChainLemmas.{Drawn}
use Rattle.basic_blocks.proofs.chains.chain_from.Given as goal

abbrev pub invariant-loop-at : goal.invariant-loop-at
invariant-loop-at l = Drawn l.only l.first l.points.items l.at

abbrev pub decreases-loop-at : goal.decreases-loop-at
decreases-loop-at l = length l.only - length l.points.items
