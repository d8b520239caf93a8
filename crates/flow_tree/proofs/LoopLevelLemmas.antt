-- The level of a loop whose tables are given makes the loop's tree.
use Rattle.std.proofs.Common.{◌≡◌, ℕ, suc, inl, inr, List, [], ◌∷◌, refl, sym, ap, ◌∙◌}
use Rattle.std.specs.Prelude.{false, nat_eq, Some}
use Rattle.std.specs.List.{AllByRecursion}
use Rattle.wsym_terms.specs.declared.trees.Tree.{Tree}
use Rattle.wsym_terms.specs.declared.trees.Tree.TheVariants.{Seq, Loop}
use Rattle.tree_law.specs.Ways.{IsIn}
use Rattle.tree_law.specs.Levels.{IsEnd, Nest, node_tree}
use Rattle.elimination_plans.specs.Stages.{Task, EndsApart, tree_members}
use Rattle.node_elimination.specs.declared.cells.Cell.{Cell}
use Rattle.node_elimination.specs.Cells.{node_cell}
use Rattle.node_elimination.specs.LevelStates.{IsTask}
use Rattle.node_elimination.specs.Measures.{AreMeasures}
use Rattle.flow_tree.specs.FlowTables.{tree_of_loop}
use Rattle.flow_tree.specs.LevelNumbers.{IsLevelOf, IsTaskOf, cell_for, loop_cell}
use Rattle.flow_tree.specs.LevelTasks.{task_of}
use Rattle.flow_tree.specs.declared.nodes.LevelNodes.{LevelNodes}
use Rattle.flow_tree.specs.declared.tables.LevelRows.{LevelRows}
use Rattle.flow_tree.proofs.LoopCellLemmas.{AreSums, loop_cell_is}

all_of : (P : ℕ → Type 0) (xs : List ℕ) → ((v : ℕ) → IsIn v xs → P v) → AllByRecursion P xs
all_of P [] h = tt
all_of P (x ∷ xs) h = (h x (inl refl), all_of P xs (λ v i. h v (inr i)))

pub ends_apart : (k : Task) (rank : ℕ → ℕ) → IsTask k rank → EndsApart k
ends_apart k rank h = (all_of (λ v. nat_eq k.from v ≡ false) k.nodes h.start, all_of (λ v. nat_eq k.to v ≡ false) k.nodes h.end)

module _ (n : Nest) (height : ℕ → ℕ) (rank : ℕ → ℕ → ℕ) (s : LevelNodes) (rows : LevelRows) (h : IsLevelOf n height rank s rows) where
  pub at_close : IsEnd (n.level s.level) s.close
  at_close = inl (sym h.close)

  pub at_leave : IsEnd (n.level s.level) s.leave
  at_leave = inr (sym h.leave)

  pub turning_task : IsTaskOf s rows.turns (task_of n height s.level s.close)
  turning_task = record {
    nodes = h.turning.nodes;
    edges = h.turning.edges;
    below = λ v i. h.below s.close v at_close i;
    cells = λ v c i e.
        h.cells v c e;
    large = λ v i e. h.large v e;
  }

  pub leaving_task : IsTaskOf s rows.leaves (task_of n height s.level s.leave)
  leaving_task = record {
    nodes = h.leaving.nodes;
    edges = h.leaving.edges;
    below = λ v i. h.below s.leave v at_leave i;
    cells = λ v c i e.
        h.cells v c e;
    large = λ v i e. h.large v e;
  }

  pub task_at : (t : ℕ) → IsEnd (n.level s.level) t → IsTask (task_of n height s.level t) (rank s.level)
  task_at t e = h.tasks.tasks s.level t e

  pub apart_at : (t : ℕ) → IsEnd (n.level s.level) t → EndsApart (task_of n height s.level t)
  apart_at t e = ends_apart (task_of n height s.level t) (rank s.level) (task_at t e)

  abbrev tree : ℕ → Tree
  tree = node_tree n (suc (height s.level)) s.level

  abbrev loop_by : ℕ → ℕ → Tree
  loop_by close leave = Loop s.level (Seq (node_tree n (suc (height s.level)) s.level (n.level s.level).header ∷ tree_members
      (task_of n height s.level close)))
      (Seq (node_tree n (suc (height s.level)) s.level (n.level s.level).header ∷ tree_members (task_of n height s.level leave)))

  is_loop : loop_by s.close s.leave ≡ tree_of_loop n height s.level
  is_loop = ap (λ t. loop_by t s.leave) (sym h.close) ∙ ap (loop_by (n.level s.level).close) (sym h.leave)

  pub loop_made : (header : ℕ) (body exit : Tree) → (n.level s.level).header ≡ header
      → body ≡ Seq (node_tree n (suc (height s.level)) s.level header ∷ tree_members (task_of n height s.level s.close))
      → exit ≡ Seq (node_tree n (suc (height s.level)) s.level header ∷ tree_members (task_of n height s.level s.leave))
      → Loop s.level body exit ≡ tree_of_loop n height s.level
  loop_made header body exit e b x =
      ap (λ y. Loop s.level y exit) (b ∙ ap (λ v. Seq (tree v ∷ tree_members (task_of n height s.level s.close))) (sym e))
      ∙ ap (λ y. Loop s.level (Seq (tree (n.level s.level).header ∷ tree_members (task_of n height s.level s.close))) y)
      (x ∙ ap (λ v. Seq (tree v ∷ tree_members (task_of n height s.level s.leave))) (sym e))
      ∙ is_loop

  sums_of : (k : Task) (c : Cell) → AreMeasures k c → AreSums (tree_members k) c
  sums_of k c m = record { leaves = m.leaves; size = m.size; depth = m.depth }

  pub cell_made : (header : ℕ) (head cell turns leaves : Cell) → (n.level s.level).header ≡ header → cell_for s header ≡ Some head
      → cell ≡ loop_cell head turns leaves → AreMeasures (task_of n height s.level s.close) turns
      → AreMeasures (task_of n height s.level s.leave) leaves → cell ≡ node_cell (tree_of_loop n height s.level)
  cell_made header head cell turns leaves e had is m l =
      is
      ∙ ap (λ c. loop_cell c turns leaves) (h.cells header head had ∙ ap (λ v. node_cell (tree v)) (sym e))
      ∙ loop_cell_is s.level (tree (n.level s.level).header) (tree_members (task_of n height s.level s.close))
      (tree_members (task_of n height s.level s.leave)) turns leaves (sums_of (task_of n height s.level s.close) turns m)
      (sums_of (task_of n height s.level s.leave) leaves l)
      ∙ ap node_cell is_loop
