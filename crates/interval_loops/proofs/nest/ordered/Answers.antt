use Rattle.std.proofs.Common.{rules, ◌<◌, ◌≤◌, length}
use Rattle.std.specs.Prelude.{nat_lt}
use Rattle.graph_reduction.specs.Nodes.{number_in}
use Rattle.interval_loops.specs.BlockOrders.{IsListing}
use Rattle.interval_loops.proofs.NestLemmas.{order_all, order_rises, order_stuck}
use Rattle.interval_loops.proofs.nest.ordered.Goals as goal

pub returns-then-len-count-clause-irreducible : goal.returns-then-len-count-clause-irreducible
returns-then-len-count-clause-irreducible g c e =
    let flow = g.G.FlowGraph.flow c.args.graph.now in
    let l : IsListing (λ t. nat_lt t (g.G.FlowGraph.flow c.args.graph.now).count) (g.G.FlowGraph.flow c.args.graph.now)
    (number_in c.as_slice.result.now) c.args.nodes.now.into c.order_of.new.into (length c.in_ok-order.order.items)
    (length c.in_ok-order.order.items) c.in_ok-order.order.items = search rules in
    let less : length c.in_ok-order.order.items < (g.G.FlowGraph.flow c.args.graph.now).count = search rules in
    order_stuck flow (number_in c.args.nodes.now.owner.items) c.as_slice.result.now c.args.nodes.now.label.items c.as_slice.ensures.value
    c.args.nodes.now.into c.order_of.new.into c.requires.ready c.in_ok-order.order.items l less

pub returns-clause-all : goal.returns-clause-all
returns-clause-all g c =
    let flow = g.G.FlowGraph.flow c.args.graph.now in
    let l : IsListing (λ t. nat_lt t (g.G.FlowGraph.flow c.args.graph.now).count) (g.G.FlowGraph.flow c.args.graph.now)
    (number_in c.as_slice.result.now) c.args.nodes.now.into c.order_of.new.into (length c.in_ok-order.order.items)
    (length c.in_ok-order.order.items) c.in_ok-order.order.items = search rules in
    let many : (g.G.FlowGraph.flow c.args.graph.now).count ≤ length c.in_ok-order.order.items = search rules in
    order_all flow (number_in c.args.nodes.now.owner.items) c.as_slice.result.now c.args.nodes.now.label.items c.as_slice.ensures.value
    c.args.nodes.now.into c.order_of.new.into c.requires.ready c.in_ok-order.order.items l many

pub returns-clause-rises : goal.returns-clause-rises
returns-clause-rises g c =
    let flow = g.G.FlowGraph.flow c.args.graph.now in
    let l : IsListing (λ t. nat_lt t (g.G.FlowGraph.flow c.args.graph.now).count) (g.G.FlowGraph.flow c.args.graph.now)
    (number_in c.as_slice.result.now) c.args.nodes.now.into c.order_of.new.into (length c.in_ok-order.order.items)
    (length c.in_ok-order.order.items) c.in_ok-order.order.items = search rules in
    let many : (g.G.FlowGraph.flow c.args.graph.now).count ≤ length c.in_ok-order.order.items = search rules in
    order_rises flow (number_in c.args.nodes.now.owner.items) c.as_slice.result.now c.args.nodes.now.label.items c.as_slice.ensures.value
    c.args.nodes.now.into c.order_of.new.into c.requires.ready c.in_ok-order.order.items l many
