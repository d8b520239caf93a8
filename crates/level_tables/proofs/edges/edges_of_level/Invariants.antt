use Rattle.std.proofs.Common.{◌≡◌, ◌++◌, drop}
use Rattle.level_tables.specs.LevelPlaces.{edges_of_blocks, edges_of_places}
use Rattle.level_tables.proofs.edges.edges_of_level.Given as goal

abbrev pub invariant-loop-block : goal.invariant-loop-block
invariant-loop-block g l = edges_of_places l.places (g.G.FlowGraph.flow l.graph) l.blocks
    ≡ l.edges ++ edges_of_blocks l.places (g.G.FlowGraph.flow l.graph) (drop l.block-index l.blocks)
