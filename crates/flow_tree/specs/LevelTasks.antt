-- A level as the task of taking its nodes out.
use Rattle.std.specs.Prelude.{◌≡◌, ℕ, suc, ◌<◌, ◌^◌, ◌⊎◌, true, ◌∷◌}
use Rattle.tree_law.specs.Levels.{Nest, IsEnd, node_tree}
use Rattle.tree_law.specs.LevelEdges.{Reaches}
use Rattle.tree_law.specs.Ways.{IsIn}
use Rattle.elimination_plans.specs.Stages.{Task}
use Rattle.node_elimination.specs.LevelStates.{Rises}

-- between the header of a loop and one of the ends of its level
abbrev pub task_of : Nest → (ℕ → ℕ) → ℕ → ℕ → Task
task_of n height c t = record {
  tree = node_tree n (suc (height c)) c;
  from = (n.level c).header;
  to = t;
  edge
      = (n.level c).useful t;
  nodes = (n.level c).nodes t;
}

-- The useful edges are those on paths, the nodes ascend, and all numbers are small. (Beside AreLevels.)
pub record AreExact (n : Nest) : Type 0 where
  pub on_path : (c t p q : ℕ) → IsEnd (n.level c) t → (n.level c).useful t p q ≡ true
      → ((p ≡ (n.level c).header) ⊎ Reaches (n.level c).edge (n.level c).header p)
      × ((q ≡ t) ⊎ Reaches (n.level c).edge q t)
  pub ascending : (c t : ℕ) → IsEnd (n.level c) t → Rises ((n.level c).nodes t)
  pub low : (c t u : ℕ) → IsEnd (n.level c) t → IsIn u ((n.level c).header ∷ t ∷ (n.level c).nodes t) → u < 2 ^ 32
