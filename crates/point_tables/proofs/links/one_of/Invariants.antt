use Rattle.std.proofs.Common.{take}
use Rattle.basic_blocks.specs.Chains.{is_flagged}
use Rattle.point_tables.proofs.LinkLemmas.{Sole}
use Rattle.point_tables.proofs.links.one_of.Given as goal

abbrev pub invariant-loop-number : goal.invariant-loop-number
invariant-loop-number l = Sole (is_flagged l.flags) (take l.number-index l.row) l.found
