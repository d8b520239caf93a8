use Rattle.std.proofs.Common.{◌∙◌, sym, slice_index_or}
use Rattle.flow_tree.proofs.NodeCellLemmas.{in_at}
use Rattle.flow_tree.proofs.nodes.LevelNodes.has_large.Goals as goal

pub returns-then-is_large : goal.returns-then-is_large
returns-then-is_large c e = (
  slice_index_or c.args.nodes.now c.loop-node.node-index 0,
  in_at c.args.nodes.now c.loop-node.node-index c.loop-node-test.true,
  sym c.is_large.ensures ∙ c.if-is_large.true,
)
