use Rattle.std.proofs.Common.{refl, ◌∙◌}
use Rattle.node_elimination.proofs.LevelStartLemmas.{edges_step}
use Rattle.node_elimination.proofs.taking.Elimination.put_edges.Goals as goal

pub loop-edge-init : goal.loop-edge-init
loop-edge-init c = record { keeps = λ all k w a. (k, w); order = refl; nodes = refl; leaves = refl; gains = λ live g. g }

pub loop-edge-preserved : goal.loop-edge-preserved
loop-edge-preserved c =
    record {
      keeps = λ all k w a. edges_step all c.args.edges.now c.loop-edge.edge-index _ c.loop-edge.self c.put_edge.new.self
          c.in_ok-put_edge.ensures.keeps c.in_ok-put_edge.ensures.ways a c.loop-edge-test.true (c.loop-edge.invariant.keeps all k w a);
      order = c.in_ok-put_edge.ensures.order ∙ c.loop-edge.invariant.order;
      nodes = c.in_ok-put_edge.ensures.nodes ∙ c.loop-edge.invariant.nodes;
      leaves = c.in_ok-put_edge.ensures.leaves ∙ c.loop-edge.invariant.leaves;
      gains = λ live g. c.in_ok-put_edge.ensures.gains live (c.loop-edge.invariant.gains live g);
    }
