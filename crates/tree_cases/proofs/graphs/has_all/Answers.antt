use Rattle.std.proofs.Common.{◌∙◌, sym}
use Rattle.tree_cases.proofs.GraphLemmas.{next_held}
use Rattle.tree_cases.proofs.graphs.has_all.Goals as goal

pub loop-block-preserved : goal.loop-block-preserved
loop-block-preserved c b l =
    next_held b c.loop-block.block c.args.found.now (sym c.contains.ensures ∙ c.if-not-contains.false) c.loop-block.invariant l
