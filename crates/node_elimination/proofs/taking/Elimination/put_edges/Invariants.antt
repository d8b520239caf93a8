use Rattle.std.proofs.Common.{◌≡◌, ℕ, Bool, List, [], take}
use Rattle.elimination_plans.specs.AddedWays.{listed}
use Rattle.elimination_plans.specs.PlanSteps.{edge_plan}
use Rattle.node_elimination.specs.GivenLevels.{plain_of, edges_of, AllOnly}
use Rattle.node_elimination.specs.Tables.{Keeps, Gains}
use Rattle.node_elimination.proofs.taking.Elimination.put_edges.Given as goal

abbrev pub invariant-loop-edge : goal.invariant-loop-edge
invariant-loop-edge l =
    record {
      keeps : (all : List ℕ) → Keeps all (plain_of (edges_of [])) l.fn.self.table → ((x y : ℕ) → listed l.fn.self.plan.ways x y ≡ [])
          → AllOnly all l.edges
          → Keeps all (plain_of (edges_of (take l.edge-index l.edges))) l.self.table
          × ((x y : ℕ) → listed l.self.plan.ways x y ≡ edge_plan (edges_of (take l.edge-index l.edges)) x y);
      order : l.self.plan.order ≡ l.fn.self.plan.order;
      nodes : l.self.nodes.items ≡ l.fn.self.nodes.items;
      leaves : l.self.table.tally.leaves.items ≡ l.fn.self.table.tally.leaves.items;
      gains : (live : ℕ → Bool) → Gains live l.fn.self.table.tally → Gains live l.self.table.tally;
    }
