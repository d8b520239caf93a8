use Rattle.std.proofs.Common.{subst, sym}
use Rattle.flow_graph.specs.declared.graph.GraphRefusal.{GraphRefusal}
use Rattle.flow_graph.specs.Graphs.{IsRefusedGraph}
use Rattle.flow_graph.proofs.GraphLemmas.{all_sound, fault_refused}
use Rattle.flow_graph.proofs.building.check_faults.Goals as goal

pub returns-in-Some-clause-refused : goal.returns-in-Some-clause-refused
returns-in-Some-clause-refused c =
    subst (λ (r : GraphRefusal). IsRefusedGraph c.args.image.now c.args.entry r) (sym c.refusal_of.ensures)
    (fault_refused c.args.image.now c.args.entry c.args.contexts.now c.args.points.now c.requires.arranged c.in-Some.found c.requires.few
    c.in-Some.ensures)

pub returns-in-None-clause-ok : goal.returns-in-None-clause-ok
returns-in-None-clause-ok c =
    all_sound c.args.image.now c.args.entry c.args.contexts.now c.args.points.now c.requires.arranged c.requires.few c.in-None.ensures
