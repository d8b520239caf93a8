use Rattle.std.proofs.Common.{◌≡◌, ◌++◌, ◌+◌, drop}
use Rattle.block_points.specs.Numbering.{next_from, total_of}
use Rattle.block_points.proofs.numbering.next_of.Given as goal

abbrev pub invariant-loop-block : goal.invariant-loop-block
invariant-loop-block l = (l.first + total_of (drop l.block-index l.blocks) ≡ total_of l.blocks)
    × (l.next ++ next_from l.firsts l.first (drop l.block-index l.blocks) ≡ next_from l.firsts 0 l.blocks)
