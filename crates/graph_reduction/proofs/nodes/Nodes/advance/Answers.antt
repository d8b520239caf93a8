use Rattle.std.proofs.Common.{sym}
use Rattle.graph_reduction.specs.Nodes.{number_in, state_of}
use Rattle.graph_reduction.specs.Reduction.{fits_one, fits_two}
use Rattle.graph_reduction.proofs.AdvanceLemmas.{ones_are, twos_are, one_top, one_step, no_step}
use Rattle.graph_reduction.proofs.nodes.Nodes.advance.Goals as goal

pub close-requires-clause-top : goal.close-requires-clause-top
close-requires-clause-top g c =
    let flow = g.G.FlowGraph.flow c.args.graph.now in
    let o = c.args.self.now in
    let s = state_of flow (number_in o.label.items) (number_in o.owner.items) o.into in
    one_top flow o.label.items o.owner.items o.members o.into o.ones o.twos c.requires.whole c.in-Some.head
    (c.in-Some.ensures (fits_one flow s) flow.count
    (ones_are flow o.label.items o.owner.items o.members o.into o.ones o.twos c.requires.whole))

pub put-requires-clause-none : goal.put-requires-clause-none
put-requires-clause-none g c =
    let flow = g.G.FlowGraph.flow c.args.graph.now in
    let o = c.args.self.now in
    let s = state_of flow (number_in o.label.items) (number_in o.owner.items) o.into in
    sym (c.in-None.ensures (fits_one flow s) flow.count
    (ones_are flow o.label.items o.owner.items o.members o.into o.ones o.twos c.requires.whole))

pub put-requires-clause-least : goal.put-requires-clause-least
put-requires-clause-least g c =
    let flow = g.G.FlowGraph.flow c.args.graph.now in
    let o = c.args.self.now in
    let s = state_of flow (number_in o.label.items) (number_in o.owner.items) o.into in
    sym (c.in-Some-least.ensures (fits_two flow s) flow.count
    (twos_are flow o.label.items o.owner.items o.members o.into o.ones o.twos c.requires.whole))

pub returns-in_ok-close-in-Some-clause-went : goal.returns-in_ok-close-in-Some-clause-went
returns-in_ok-close-in-Some-clause-went g c =
    let flow = g.G.FlowGraph.flow c.args.graph.now in
    let o = c.args.self.now in
    let s = state_of flow (number_in o.label.items) (number_in o.owner.items) o.into in
    one_step flow o.label.items o.owner.items o.members o.into o.ones o.twos c.requires.whole c.in-Some.head _
    (c.in-Some.ensures (fits_one flow s) flow.count
    (ones_are flow o.label.items o.owner.items o.members o.into o.ones o.twos c.requires.whole)) c.in_ok-close-in-Some.ensures.closed

pub returns-in-None-least-clause-went : goal.returns-in-None-least-clause-went
returns-in-None-least-clause-went g c =
    let flow = g.G.FlowGraph.flow c.args.graph.now in
    let o = c.args.self.now in
    let s = state_of flow (number_in o.label.items) (number_in o.owner.items) o.into in
    no_step flow o.label.items o.owner.items o.members o.into o.ones o.twos c.requires.whole
    (c.in-None.ensures (fits_one flow s) flow.count
    (ones_are flow o.label.items o.owner.items o.members o.into o.ones o.twos c.requires.whole))
    (c.in-None-least.ensures (fits_two flow s) flow.count
    (twos_are flow o.label.items o.owner.items o.members o.into o.ones o.twos c.requires.whole))
