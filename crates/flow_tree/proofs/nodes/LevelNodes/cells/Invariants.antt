use Rattle.std.proofs.Common.{drop}
use Rattle.std.specs.Prelude.{slice_get}
use Rattle.flow_tree.specs.FlowTables.{cell_had, child_by}
use Rattle.flow_tree.proofs.NodeCellLemmas.{Placed}
use Rattle.flow_tree.proofs.nodes.LevelNodes.cells.Given as goal

abbrev pub invariant-loop-node : goal.invariant-loop-node
invariant-loop-node l =
    Placed (λ u. cell_had l.self.trees.now (slice_get l.self.blocks.now u) (child_by l.self.count l.self.nest.now l.self.level u))
    l.nodes l.made.items (drop l.node-index l.nodes)
