-- A level whose tables are given is a task with its numbers, and its plan can be built from.
use Rattle.std.proofs.Common.{◌≡◌, ℕ, List, sym, ap, subst, ◌∙◌}
use Rattle.std.specs.Prelude.{Some}
use Rattle.tree_law.specs.Ways.{IsIn}
use Rattle.elimination_plans.specs.Plans.{Falls, node_of_plan, via}
use Rattle.elimination_plans.specs.Stages.{Task}
use Rattle.elimination_plans.proofs.FinishedPlanLemmas.{done_plan}
use Rattle.node_elimination.specs.declared.cells.Cell.{Cell}
use Rattle.node_elimination.specs.declared.level.LevelPlan.{LevelPlan}
use Rattle.node_elimination.specs.GivenLevels.{IsGiven, edges_of}
use Rattle.node_elimination.specs.LevelPlans.{IsPlanOf}
use Rattle.node_elimination.specs.LevelStates.{cell_at}
use Rattle.flow_tree.specs.declared.nodes.LevelNodes.{LevelNodes}
use Rattle.flow_tree.specs.declared.tables.PathRows.{PathRows}
use Rattle.flow_tree.specs.LevelNumbers.{IsTaskOf, cell_for}

pub is_given : (s : LevelNodes) (rows : PathRows) (k : Task) (cells : List Cell) (es : List (ℕ × ℕ)) (ns : List ℕ) → es ≡ rows.edges
    → ns ≡ rows.nodes
    → ((u : ℕ) → IsIn u ns → cell_for s u ≡ Some (cell_at cells u)) → IsTaskOf s rows k → IsGiven k cells es ns
is_given s rows k cells es ns e f all h =
    record {
      nodes_are = h.nodes ∙ sym f;
      edges_are = λ p q. h.edges p q ∙ ap (λ (xs : List (ℕ × ℕ)). edges_of xs p q) (sym e);
      trees_are = λ v i. h.cells v (cell_at cells v) i (all v (subst (IsIn v) (h.nodes ∙ sym f) i));
    }

pub same_ways : (k : Task) (p : LevelPlan) → (h : IsPlanOf k p) → via p.plan ≡ h.stage.plan
same_ways k p h = λ i x y. h.ways x y i

pub plan_falls : (k : Task) (p : LevelPlan) → IsPlanOf k p → Falls (node_of_plan p.plan) (via p.plan)
plan_falls k p h = (done_plan k h.stage p.plan h.done (same_ways k p h) h.order).1
