use Rattle.std.proofs.Common.{ℕ}
use Rattle.elimination_plans.specs.Stages.{Task, Stage, first_stage}
use Rattle.node_elimination.specs.LevelStates.{IsTask, IsStage, Holds}
use Rattle.node_elimination.proofs.taking.Elimination.take_out_all.Given as goal

abbrev pub invariant-loop-round : goal.invariant-loop-round
invariant-loop-round l = (k : Task) (rank : ℕ → ℕ) → IsTask k rank → Holds k (first_stage k) l.fn.self → (s : Stage) × IsStage k s
    × Holds k s l.self
