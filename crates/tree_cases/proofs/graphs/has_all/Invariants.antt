use Rattle.std.proofs.Common.{◌≡◌, ◌<◌, ℕ, nat_eq, true}
use Rattle.graph_search.specs.NodeLists.{holds}
use Rattle.tree_cases.proofs.graphs.has_all.Given as goal

abbrev pub invariant-loop-block : goal.invariant-loop-block
invariant-loop-block l = (b : ℕ) → b < l.block → holds nat_eq b l.found ≡ true
