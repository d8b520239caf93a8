use Rattle.std.proofs.Common.{◌≡◌, take}
use Rattle.node_elimination.specs.Cells.{firsts}
use Rattle.node_elimination.proofs.taking.firsts_of.Given as goal

abbrev pub invariant-loop-each : goal.invariant-loop-each
invariant-loop-each l = l.made.items ≡ firsts (take l.each-index l.list)
