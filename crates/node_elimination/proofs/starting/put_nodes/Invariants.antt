use Rattle.std.proofs.Common.{◌≡◌, false, take}
use Rattle.elimination_plans.specs.AddedWays.{has}
use Rattle.node_elimination.specs.Tables.{Gains}
use Rattle.node_elimination.proofs.starting.put_nodes.Given as goal

abbrev pub invariant-loop-node : goal.invariant-loop-node
invariant-loop-node l =
    record {
      gains : Gains (λ u. false) l.fn.tally → Gains (λ u. has u (take l.node-index l.nodes)) l.tally;
      sums : l.tally.sums.items ≡ l.fn.tally.sums.items;
      leaves : l.tally.leaves.items ≡ l.fn.tally.leaves.items;
    }
