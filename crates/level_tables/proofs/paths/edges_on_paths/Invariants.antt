use Rattle.std.proofs.Common.{◌≡◌, ◌++◌, drop}
use Rattle.level_tables.specs.PathEdges.{edges_between}
use Rattle.level_tables.proofs.paths.edges_on_paths.Given as goal

abbrev pub invariant-loop-edge : goal.invariant-loop-edge
invariant-loop-edge l = edges_between l.ahead l.back l.edges ≡ l.kept ++ edges_between l.ahead l.back (drop l.edge-index l.edges)
