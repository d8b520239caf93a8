use Rattle.std.proofs.Common.{◌+◌, ◌++◌, ◌∙◌, length, ap}
use Rattle.std.specs.Prelude.{replicate}
use Rattle.block_points.specs.Numbering.{joined}
use Rattle.block_points.proofs.LoopLemmas.{joined_on}
use Rattle.block_points.proofs.numbering.home_of.Goals as goal

pub loop-block-preserved : goal.loop-block-preserved
loop-block-preserved c = (
  ap (λ n. n + 1) c.loop-block.invariant.0,
  joined_on (λ k b. replicate (length b.points) k) c.args.blocks.now c.loop-block.block-index c.loop-block.number c.block-item.result
      c.loop-block.home c.add_home.new.home (joined (λ k b. replicate (length b.points) k) 0 c.args.blocks.now) c.loop-block-test.true
      c.block-item.is
      (c.in_ok-add_home.ensures ∙ ap (λ n. c.loop-block.home ++ replicate n c.loop-block.number) c.len.ensures) c.loop-block.invariant.1,
)
