use Rattle.std.proofs.Common.{◌≡◌, take}
use Rattle.node_elimination.specs.GivenLevels.{own_leaves}
use Rattle.node_elimination.proofs.starting.leaves_of.Given as goal

abbrev pub invariant-loop-cell : goal.invariant-loop-cell
invariant-loop-cell l = l.made.items ≡ own_leaves (take l.cell-index l.cells)
