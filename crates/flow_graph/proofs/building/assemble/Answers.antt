use Rattle.std.proofs.Common.{refl, map}
use Rattle.control_flow.specs.Points.{entry_point}
use Rattle.flow_graph.specs.declared.graph.Block.{Block}
use Rattle.flow_graph.specs.declared.graph.FunctionGraph.{FunctionGraph}
use Rattle.flow_graph.specs.Graphs.{graph_points}
use Rattle.flow_graph.proofs.GraphLemmas.{arranged_ready, cut_same, function_graph_is, links_same, ready_same}
use Rattle.flow_graph.proofs.building.assemble.Goals as goal

pub graph_of-requires-clause-ready : goal.graph_of-requires-clause-ready
graph_of-requires-clause-ready c =
    let t = c.args.tables in
    let links =
    links_same c.args.first c.in_ok-chains.chains t.targets c.as_slice.result.now t.sources c.as_slice-2.result.now t.live
    c.as_slice-3.result.now
    c.as_slice.ensures c.as_slice-2.ensures c.as_slice-3.ensures c.in_ok-chains.ensures in
    let ready =
    arranged_ready c.args.image.now c.args.entry c.args.contexts.now c.args.points c.requires.arranged t.targets t.sources t.live
    c.args.first
    c.in_ok-chains.chains c.requires.sound c.requires.tables c.requires.first links in
    ready_same c.args.image.now c.args.entry c.args.contexts.now c.args.points c.as_slice-4.result.now t.targets c.as_slice-5.result.now
    t.live
    c.as_slice-6.result.now c.in_ok-chains.chains c.as_slice-7.result.now c.as_slice-4.ensures c.as_slice-5.ensures c.as_slice-6.ensures
    c.as_slice-7.ensures ready

pub returns : goal.returns
returns c =
    let t = c.args.tables in
    let links =
    links_same c.args.first c.in_ok-chains.chains t.targets c.as_slice.result.now t.sources c.as_slice-2.result.now t.live
    c.as_slice-3.result.now
    c.as_slice.ensures c.as_slice-2.ensures c.as_slice-3.ensures c.in_ok-chains.ensures in
    let ready =
    arranged_ready c.args.image.now c.args.entry c.args.contexts.now c.args.points c.requires.arranged t.targets t.sources t.live
    c.args.first
    c.in_ok-chains.chains c.requires.sound c.requires.tables c.requires.first links in
    let f : FunctionGraph =
    record {
      graph = c.in_ok-graph.graph;
      tables =
          record {
            points = c.args.points;
            targets = t.targets;
            sources = t.sources;
            live = t.live;
            chains = c.in_ok-chains.chains;
          };
    } in
    function_graph_is c.args.image.now c.args.entry c.args.contexts.now t.sources f ready c.requires.tables.back refl
    c.in_ok-graph.ensures.graph
    c.in_ok-graph.ensures.contexts
    (cut_same c.args.contexts.now (entry_point c.args.entry) (map
    (λ (b : Block). graph_points c.args.contexts.now b.points) c.in_ok-graph.graph.blocks)
    c.args.points c.as_slice-4.result.now c.in_ok-chains.chains c.as_slice-7.result.now c.as_slice-4.ensures c.as_slice-7.ensures
    c.in_ok-graph.ensures.cut)
