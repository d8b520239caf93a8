use Rattle.std.proofs.Common.{rules}
use Rattle.graph_reduction.specs.Nodes.{number_in}
use Rattle.graph_reduction.specs.NodeStates.{state_in}
use Rattle.interval_loops.proofs.NestLemmas.{closed_edge, told_closed, closings_below, are_sources}
use Rattle.interval_loops.proofs.nest.tables_of.Goals as goal

pub sources-requires : goal.sources-requires
sources-requires g c = c.requires.ready.bounded

pub closing_sources-requires : goal.closing_sources-requires
closing_sources-requires g c =
    record {
      below = closings_below (g.G.FlowGraph.flow c.args.graph.now) c.requires.ready.bounded
          (state_in (g.G.FlowGraph.flow c.args.graph.now) c.args.nodes.now)
          (closed_edge (g.G.FlowGraph.flow c.args.graph.now) (number_in c.args.nodes.now.label.items)
          (number_in c.args.nodes.now.owner.items) c.args.nodes.now.into) c.in_ok-closings.closings c.in_ok-closings.ensures
          c.count.result c.count.ensures;
    }

pub returns-clause-sources : goal.returns-clause-sources
returns-clause-sources g c =
    are_sources (g.G.FlowGraph.flow c.args.graph.now) c.requires.ready.bounded
    (state_in (g.G.FlowGraph.flow c.args.graph.now) c.args.nodes.now)
    (closed_edge (g.G.FlowGraph.flow c.args.graph.now) (number_in c.args.nodes.now.label.items)
    (number_in c.args.nodes.now.owner.items) c.args.nodes.now.into)
    c.in_ok-closers.closers.items c.in_ok-before.before.items (search rules) c.in_ok-before.ensures.size
    (told_closed (state_in (g.G.FlowGraph.flow c.args.graph.now) c.args.nodes.now) c.in_ok-closings.closings c.in_ok-closers.closers.items
    c.in_ok-closings.ensures c.in_ok-closers.ensures.exact) c.in_ok-before.ensures.exact

pub returns-clause-same : goal.returns-clause-same
returns-clause-same g c = told_closed (state_in (g.G.FlowGraph.flow c.args.graph.now) c.args.nodes.now) c.in_ok-closings.closings
    c.in_ok-closers.closers.items c.in_ok-closings.ensures c.in_ok-closers.ensures.exact
