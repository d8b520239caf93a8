use Rattle.std.proofs.Common.{◌≡◌, ◌+◌, drop}
use Rattle.block_points.specs.Numbering.{total_of}
use Rattle.graph_uses.proofs.finding.total_points.Given as goal

abbrev pub invariant-loop-block : goal.invariant-loop-block
invariant-loop-block l = l.total + total_of (drop l.block-index l.blocks) ≡ total_of l.blocks
