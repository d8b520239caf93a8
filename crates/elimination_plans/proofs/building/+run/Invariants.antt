use Rattle.std.proofs.Common.{◌≡◌, ◌≤◌, ◌++◌, ℕ, List, map, ◌+◌, ◌*◌, take}
use Rattle.wsym_terms.specs.declared.trees.Tree.{Tree as TreeValue}
use Rattle.wsym_terms.specs.declared.trees.Tree.TheVariants.{Seq}
use Rattle.elimination_plans.specs.Plans.{Extends, via, node_of_plan, stacked, way_of, Unrolls, top, high, efforts}
use Rattle.elimination_plans.proofs.building.+run.Given as goal

abbrev pub decreases-choices : goal.decreases-choices
decreases-choices g l = 3 * top (via l.plan.now l.from l.to)

abbrev pub decreases-unfold : goal.decreases-unfold
decreases-unfold g l = 3 * top (via l.plan.now l.from l.to) + 1

abbrev pub decreases-run : goal.decreases-run
decreases-run g l = 3 * high (via l.plan.now) l.stack.items + 2

abbrev pub invariant-choices-loop-entry : goal.invariant-choices-loop-entry
invariant-choices-loop-entry g l =
    record {
      items : l.entry-items ≡ via l.fn.plan l.fn.from l.fn.to;
      made : (tree : ℕ → TreeValue) (F : ℕ → ℕ → List (List TreeValue)) → Extends (g.N.Nodes.tree l.fn.nodes) tree
          → Unrolls tree (node_of_plan l.fn.plan) (via l.fn.plan) F
          → l.made ≡ map Seq (map (way_of tree (node_of_plan l.fn.plan) F l.fn.from l.fn.to)
          (take l.entry-index l.entry-items));
    }

abbrev pub invariant-run-loop-piece : goal.invariant-run-loop-piece
invariant-run-loop-piece g l =
    record {
      made : (tree : ℕ → TreeValue) (F : ℕ → ℕ → List (List TreeValue)) → Extends (g.N.Nodes.tree l.fn.nodes) tree
          → Unrolls tree (node_of_plan l.fn.plan) (via l.fn.plan) F
          → l.made ++ stacked tree F l.stack.items ≡ stacked tree F l.fn.stack.items;
      low : high (via l.fn.plan) l.stack.items ≤ high (via l.fn.plan) l.fn.stack.items;
    }

abbrev pub decreases-run-loop-piece : goal.decreases-run-loop-piece
decreases-run-loop-piece g l = efforts (via l.fn.plan) l.stack.items
