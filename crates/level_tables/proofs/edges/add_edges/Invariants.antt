use Rattle.std.proofs.Common.{◌≡◌, ◌++◌, drop}
use Rattle.level_tables.specs.LevelPlaces.{edges_from}
use Rattle.level_tables.proofs.edges.add_edges.Given as goal

abbrev pub invariant-loop-target : goal.invariant-loop-target
invariant-loop-target l =
    l.fn.edges ++ edges_from l.places l.from l.targets ≡ l.edges ++ edges_from l.places l.from (drop l.target-index l.targets)
