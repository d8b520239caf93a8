use Rattle.graph_reduction.specs.Sets.{in_set}
use Rattle.graph_reduction.proofs.ClosingEdgeLemmas.{closing_next}
use Rattle.graph_reduction.proofs.closers.add_closings.Goals as goal

pub loop-target-preserved : goal.loop-target-preserved
loop-target-preserved c =
    closing_next c.args.row.now (λ t. in_set c.args.into.now t c.args.node c.args.block) c.loop-target.target-index c.args.block
    c.loop-target-test.true (in_set c.args.closing.now)
    c.loop-target.closing c.add_closing.new.closing c.loop-target.invariant c.in_ok-add_closing.ensures
