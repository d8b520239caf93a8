use Rattle.wcet_core.proofs.structures.structure_of.Goals as goal

pub loops-requires : goal.loops-requires
loops-requires c =
    c.graphs_are_flows.ensures.bounded c.args.image.now c.args.entry c.in_ok-function.function.graph c.in_ok-function.ensures.ok.graph
