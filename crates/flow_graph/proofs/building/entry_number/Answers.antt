use Rattle.flow_graph.proofs.GraphLemmas.{entry_there}
use Rattle.flow_graph.proofs.building.entry_number.Goals as goal

pub returns-in-None : goal.returns-in-None
returns-in-None c =
    let there = entry_there c.args.image.now c.args.entry c.args.contexts.now c.args.points.now c.requires.arranged in
    absurd (c.in-None.ensures there.0 there.1)
