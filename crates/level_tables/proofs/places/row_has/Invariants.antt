use Rattle.std.proofs.Common.{◌≡◌, nat_eq, drop}
use Rattle.graph_search.specs.NodeLists.{holds}
use Rattle.level_tables.proofs.places.row_has.Given as goal

abbrev pub invariant-loop-other : goal.invariant-loop-other
invariant-loop-other l = holds nat_eq l.number l.row ≡ holds nat_eq l.number (drop l.other-index l.row)
