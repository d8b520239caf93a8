use Rattle.std.proofs.Common.{◌∙◌}
use Rattle.level_tables.proofs.LevelRowLemmas.{is_level}
use Rattle.level_tables.proofs.rows.rows_of_level.Goals as goal

pub returns : goal.returns
returns g c =
    is_level c.args.places.now (g.G.FlowGraph.flow c.args.graph.now) c.args.blocks.now c.requires.count c.requires.close c.requires.leave
    c.requires.blocks c.requires.below c.as_slice.result.now (c.as_slice.ensures ∙ c.in_ok-edges.ensures) c.in_ok-rows.rows
    c.in_ok-rows.ensures.turning c.in_ok-rows.ensures.leaving
