-- The plan of a level whose nodes are all taken out, and when its trees are too large.
use Rattle.std.specs.Prelude.{◌≡◌, ℕ, ◌<◌, ◌≤◌, ◌⊎◌}
use Rattle.elimination_plans.specs.AddedWays.{listed}
use Rattle.elimination_plans.specs.Stages.{Task, Stage, IsDone}
use Rattle.node_elimination.specs.declared.cells.Cell.{Cell}
use Rattle.node_elimination.specs.declared.level.LevelPlan.{LevelPlan}
use Rattle.node_elimination.specs.declared.taking.Elimination.{Elimination}
use Rattle.node_elimination.specs.Measures.{AreMeasures, nesting_between, size_between}

abbrev pub IsPast : Task → Type 0
IsPast k = (500000 < size_between k) ⊎ (1000 < nesting_between k)

-- the level is done, and its numbers are within the limits
pub record IsFinished (level : Elimination) (measures : Cell) (p : LevelPlan) : Type 0 where
  pub plan : p.plan ≡ level.plan
  pub same : p.measures ≡ measures
  pub small : measures.size ≤ 500000
  pub shallow : measures.depth ≤ 1000

pub record IsPlanOf (k : Task) (p : LevelPlan) : Type 0 where
  pub stage : Stage
  pub done : IsDone k stage
  pub ways : (x y : ℕ) → listed p.plan.ways x y ≡ stage.plan x y
  pub order : p.plan.order ≡ stage.taken
  pub measures : AreMeasures k p.measures
  pub small : p.measures.size ≤ 500000
  pub shallow : p.measures.depth ≤ 1000
