use Rattle.std.proofs.Common.{◌≡◌, ◌++◌, length, drop}
use Rattle.std.specs.Prelude.{replicate}
use Rattle.block_points.specs.Numbering.{joined}
use Rattle.block_points.proofs.numbering.home_of.Given as goal

abbrev pub invariant-loop-block : goal.invariant-loop-block
invariant-loop-block l = (l.number ≡ l.block-index)
    × (l.home ++ joined (λ k b. replicate (length b.points) k) l.number (drop l.block-index l.blocks)
    ≡ joined (λ k b. replicate (length b.points) k) 0 l.blocks)
