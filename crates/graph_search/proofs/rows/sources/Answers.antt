use Rattle.std.proofs.Common.{rules, ◌∙◌}
use Rattle.graph_search.proofs.RowLemmas.{edges_next, edges_none, row_below}
use Rattle.graph_search.proofs.rows.sources.Goals as goal

pub add_source-requires : goal.add_source-requires
add_source-requires g c = λ h t. row_below (g.G.FlowGraph.flow c.args.graph.now) c.requires c.loop-node.node
    c.row.result.now (search rules) c.row.ensures c.loop-node.rows.items c.loop-node.invariant.size h t

pub loop-node-init : goal.loop-node-init
loop-node-init g c =
    record {
      size = search rules;
      exact = edges_none (g.G.FlowGraph.flow c.args.graph.now).next c.in_ok-rows.rows.items c.in_ok-rows.ensures.empty;
    }

pub loop-node-preserved : goal.loop-node-preserved
loop-node-preserved g c =
    record {
      size = c.in_ok-add_source.ensures.size ∙ c.loop-node.invariant.size;
      exact = edges_next (g.G.FlowGraph.flow c.args.graph.now).next c.row.result.now c.loop-node.node c.row.ensures
          c.loop-node.rows.items c.add_source.new.rows.items c.loop-node.invariant.exact
          c.in_ok-add_source.ensures.there;
    }
