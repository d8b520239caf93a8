use Rattle.std.proofs.Common.{◌≡◌, ℕ, ◌||◌, nat_eq, drop}
use Rattle.std.specs.Ordering.{nat_cmp}
use Rattle.std.specs.BTreeMap as tree
use Rattle.graph_search.specs.NodeLists.{holds}
use Rattle.node_elimination.specs.GivenLevels.{edges_of}
use Rattle.level_tables.specs.EdgeRows.{row_or}
use Rattle.level_tables.proofs.links.forward.Given as goal

abbrev pub invariant-loop-edge : goal.invariant-loop-edge
invariant-loop-edge l = (p q : ℕ) → edges_of l.edges p q
    ≡ (holds nat_eq q (row_or (tree.get nat_cmp l.rows.rows p)) || edges_of (drop l.edge-index l.edges) p q)
