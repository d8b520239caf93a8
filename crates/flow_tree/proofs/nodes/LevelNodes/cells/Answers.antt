use Rattle.std.proofs.Common.{rules}
use Rattle.std.specs.Prelude.{slice_get}
use Rattle.flow_tree.specs.FlowTables.{cell_had, child_by}
use Rattle.flow_tree.proofs.NodeCellLemmas.{placed_more}
use Rattle.flow_tree.proofs.nodes.LevelNodes.cells.Goals as goal

pub loop-node-preserved : goal.loop-node-preserved
loop-node-preserved c =
    let s = c.args.self.now in
    placed_more (λ u. cell_had s.trees.now (slice_get s.blocks.now u) (child_by s.count s.nest.now s.level u)) c.args.nodes.now
    c.loop-node.made.items c.loop-node.node-index c.in_ok-made-2.field-0 c.loop-node-test.true
    (search rules)
    c.in_ok-made-2.ensures c.loop-node.invariant
