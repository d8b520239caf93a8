use Rattle.std.proofs.Common.{refl, ◌∙◌, subst, ℕ, Bool, take}
use Rattle.elimination_plans.specs.AddedWays.{has}
use Rattle.node_elimination.specs.Tables.{Gains}
use Rattle.node_elimination.proofs.LevelStartLemmas.{has_more}
use Rattle.node_elimination.proofs.starting.put_nodes.Goals as goal

pub loop-node-init : goal.loop-node-init
loop-node-init c = record { gains = λ g. g; sums = refl; leaves = refl }

pub loop-node-preserved : goal.loop-node-preserved
loop-node-preserved c =
    record {
      gains = λ g. subst (λ (f : ℕ → Bool). Gains f c.put_node.new.tally)
          (has_more c.args.nodes.now c.loop-node.node-index _ c.loop-node-test.true)
          (c.in_ok-put_node.ensures.gains (λ u. has u (take c.loop-node.node-index c.args.nodes.now)) (c.loop-node.invariant.gains g));
      sums = c.in_ok-put_node.ensures.sums.0 ∙ c.loop-node.invariant.sums;
      leaves = c.in_ok-put_node.ensures.sums.1 ∙ c.loop-node.invariant.leaves;
    }
