-- The numbers of what stands between the ends of a level.
use Rattle.std.specs.Prelude.{◌≡◌, ℕ}
use Rattle.wsym_terms.specs.TreeNesting.{tree_nesting}
use Rattle.wsym_terms.specs.Trees.{size_of}
use Rattle.tree_law.specs.NodeOrders.{leaves_of, sum_over}
use Rattle.elimination_plans.specs.Stages.{Task, tree_members}
use Rattle.elimination_plans.specs.TreeDepths.{max_over}
use Rattle.node_elimination.specs.declared.cells.Cell.{Cell}

-- leaves and sizes of some trees together, and the deepest nesting
abbrev pub leaves_between : Task → ℕ
leaves_between k = sum_over leaves_of (tree_members k)

abbrev pub size_between : Task → ℕ
size_between k = sum_over size_of (tree_members k)

abbrev pub nesting_between : Task → ℕ
nesting_between k = max_over tree_nesting (tree_members k)

pub record AreMeasures (k : Task) (c : Cell) : Type 0 where
  pub leaves : c.leaves ≡ leaves_between k
  pub size : c.size ≡ size_between k
  pub depth : c.depth ≡ nesting_between k
