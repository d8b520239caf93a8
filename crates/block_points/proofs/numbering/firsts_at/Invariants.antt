use Rattle.std.proofs.Common.{◌≡◌, ◌++◌, drop}
use Rattle.block_points.specs.Numbering.{firsts_at}
use Rattle.block_points.proofs.numbering.firsts_at.Given as goal

abbrev pub invariant-loop-block : goal.invariant-loop-block
invariant-loop-block l = l.found ++ firsts_at l.firsts (drop l.block-index l.blocks) ≡ firsts_at l.firsts l.blocks
