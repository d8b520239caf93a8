use Rattle.std.proofs.Common.{◌≡◌, take}
use Rattle.node_elimination.specs.GivenLevels.{zeros}
use Rattle.node_elimination.proofs.starting.no_edges.Given as goal

abbrev pub invariant-loop-cell : goal.invariant-loop-cell
invariant-loop-cell l = l.made.items ≡ zeros (take l._cell-index l.cells)
