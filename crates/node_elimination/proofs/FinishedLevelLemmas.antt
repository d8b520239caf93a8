-- A level that is done is planned, and one that is refused has trees that are too large.
use Rattle.std.proofs.Common.{◌<◌, ◌≤◌, ◌⊎◌, inl, inr, sym, ap, subst, ◌∙◌}
use Rattle.std.specs.Prelude.{Result, Ok, Err, IfOk}
use Rattle.elimination_plans.specs.AddedWays.{listed}
use Rattle.elimination_plans.specs.Stages.{Task, Stage, IsDone}
use Rattle.node_elimination.specs.declared.cells.Cell.{Cell}
use Rattle.node_elimination.specs.declared.level.LevelPlan.{LevelPlan}
use Rattle.node_elimination.specs.declared.taking.Elimination.{Elimination}
use Rattle.node_elimination.specs.LevelPlans.{IsFinished, IsPast, IsPlanOf}
use Rattle.node_elimination.specs.LevelStates.{Holds}
use Rattle.node_elimination.specs.Measures.{AreMeasures}

pub planned : (k : Task) (level : Elimination) (measures : Cell) (p : LevelPlan) → IsFinished level measures p
    → (d : (s : Stage) × IsDone k s × Holds k s level) → AreMeasures k measures → IsPlanOf k p
planned k level measures p f d m =
    record {
      stage = d.0;
      done = d.1;
      ways = λ x y. ap (λ q. listed q.ways x y) f.plan ∙ d.2.plan x y;
      order = ap (λ q. q.order) f.plan ∙ d.2.order;
      measures = subst (λ c. AreMeasures k c) (sym f.same) m;
      small = subst (λ (c : Cell). c.size ≤ 500000) (sym f.same) f.small;
      shallow = subst (λ (c : Cell). c.depth ≤ 1000) (sym f.same) f.shallow;
    }

pub past : (k : Task) (measures : Cell) → (500000 < measures.size) ⊎ (1000 < measures.depth) → AreMeasures k measures → IsPast k
past k measures (inl a) m = inl (subst (λ n. 500000 < n) m.size a)
past k measures (inr b) m = inr (subst (λ n. 1000 < n) m.depth b)

pub if_ok_more : {T E : Type 0} (P Q : T → Type 0) → ((t : T) → P t → Q t) → (r : Result T E) → IfOk r P → IfOk r Q
if_ok_more P Q f (Ok t) h = f t h
if_ok_more P Q f (Err e) h = tt
