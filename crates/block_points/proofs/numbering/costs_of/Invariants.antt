use Rattle.std.proofs.Common.{◌≡◌, ◌++◌, map, drop}
use Rattle.fetch_timing.specs.Timings.{point_cost}
use Rattle.block_points.specs.Numbering.{joined}
use Rattle.block_points.proofs.numbering.costs_of.Given as goal

abbrev pub invariant-loop-block : goal.invariant-loop-block
invariant-loop-block l = l.costs ++ joined (λ k b. map (λ x. point_cost l.timing x.insn) b.points) l.block-index
    (drop l.block-index l.blocks)
    ≡ joined (λ k b. map (λ x. point_cost l.timing x.insn) b.points) 0 l.blocks
