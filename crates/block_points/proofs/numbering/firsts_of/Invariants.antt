use Rattle.std.proofs.Common.{◌≡◌, ◌++◌, ◌+◌, drop}
use Rattle.block_points.specs.Numbering.{firsts_from, total_of}
use Rattle.block_points.proofs.numbering.firsts_of.Given as goal

abbrev pub invariant-loop-block : goal.invariant-loop-block
invariant-loop-block l = (l.first + total_of (drop l.block-index l.blocks) ≡ total_of l.blocks)
    × (l.firsts ++ firsts_from l.first (drop l.block-index l.blocks) ≡ firsts_from 0 l.blocks)
