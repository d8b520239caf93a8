-- How deep the trees in the ways of an edge nest.
use Rattle.std.specs.Prelude.{ℕ, max, List, [], ◌∷◌}
use Rattle.wsym_terms.specs.TreeNesting.{tree_nesting}
use Rattle.wsym_terms.specs.declared.trees.Tree.{Tree}
use Rattle.tree_law.specs.Ways.{members}

abbrev pub max_over : {A : Type 0} → (A → ℕ) → List A → ℕ
max_over f [] = 0
max_over f (x ∷ xs) = max (f x) (max_over f xs)

abbrev pub depth_of_members : List (List Tree) → ℕ
depth_of_members ws = max_over tree_nesting (members ws)
