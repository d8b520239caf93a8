-- The nest that the tables of a function describe, and when its tree is too large.
use Rattle.std.specs.Prelude.{◌≡◌, ℕ, ◌<◌, ◌⊎◌, true, List, Option}
use Rattle.std.specs.Ordering.{nat_cmp}
use Rattle.std.specs.BTreeSet as set
use Rattle.std.specs.BTreeSet.{BTreeSet}
use Rattle.wsym_terms.specs.TreeNesting.{tree_nesting}
use Rattle.wsym_terms.specs.Trees.{size_of}
use Rattle.wsym_terms.specs.declared.trees.Tree.{Tree}
use Rattle.tree_law.specs.Levels.{Nest}
use Rattle.flow_tree.specs.FlowTables.{AreTables, AreTasks, AreTrees, tree_of_loop}
use Rattle.flow_tree.specs.declared.tables.FlowTables.{FlowTables}
use Rattle.flow_tree.specs.declared.tables.LoopTree.{LoopTree}

pub record IsDescribed (f : FlowTables) (n : Nest) (height : ℕ → ℕ) (rank : ℕ → ℕ → ℕ) : Type 0 where
  pub tables : AreTables f.count f.close f.leave f.nest.now f.levels.now f.blocks.now n
  pub tasks : AreTasks n height rank

-- some nest is described
abbrev pub HasNest : FlowTables → Type 0
HasNest f = (n : Nest) × (height : ℕ → ℕ) × (rank : ℕ → ℕ → ℕ) × IsDescribed f n height rank

-- the loops' trees that are made are those of each nest that is described
abbrev pub AreMade : FlowTables → List (Option LoopTree) → Type 0
AreMade f trees = (n : Nest) (height : ℕ → ℕ) (rank : ℕ → ℕ → ℕ) → IsDescribed f n height rank → AreTrees n height trees

abbrev pub IsTooLarge : Tree → Type 0
IsTooLarge t = (500000 < size_of t) ⊎ (1000 < tree_nesting t)

-- and some loops' trees are too large in each
abbrev pub AreLarge : FlowTables → BTreeSet ℕ → Type 0
AreLarge f loops = (n : Nest) (height : ℕ → ℕ) (rank : ℕ → ℕ → ℕ) → IsDescribed f n height rank
    → (d : ℕ) → set.contains nat_cmp loops d ≡ true → IsTooLarge (tree_of_loop n height d)
