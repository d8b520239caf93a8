use Rattle.std.proofs.Common.{◌≡◌, ◌++◌, map, drop}
use Rattle.graph_reports.specs.Parts.{block_in}
use Rattle.graph_reports.proofs.parts.report_blocks.Given as goal

abbrev pub invariant-loop-block : goal.invariant-loop-block
invariant-loop-block l = l.found ++ map (block_in l.lists) (drop l.block-index l.blocks) ≡ map (block_in l.lists) l.blocks
