use Rattle.std.proofs.Common.{◌≡◌, ◌++◌, map, drop}
use Rattle.fetch_timing.specs.Caches.{line_of}
use Rattle.block_points.specs.Numbering.{joined}
use Rattle.block_points.proofs.numbering.lines_of.Given as goal

abbrev pub invariant-loop-block : goal.invariant-loop-block
invariant-loop-block l = l.lines ++ joined (λ k b. map (λ x. line_of l.timing x.address) b.points) l.block-index
    (drop l.block-index l.blocks)
    ≡ joined (λ k b. map (λ x. line_of l.timing x.address) b.points) 0 l.blocks
