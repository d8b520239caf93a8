-- How deep a control-flow tree nests.
use Rattle.std.specs.Prelude.{ℕ, suc, max, List, [], ◌∷◌}
use Rattle.wsym_terms.specs.declared.trees.Tree.{Tree, fold-Tree}
use Rattle.wsym_terms.specs.declared.trees.Tree.TheOpen.{Tree-F}
use Rattle.wsym_terms.specs.declared.trees.Tree.TheOpen.Tree-F.{Leaf, Seq, Alt, Loop}

-- the greatest of some numbers
abbrev pub most : List ℕ → ℕ
most [] = 0
most (m ∷ ms) = max m (most ms)

-- a leaf has 1
abbrev pub level_depth : Tree-F ℕ → ℕ
level_depth (Leaf block base uses) = 1
level_depth (Seq members) = suc (most members)
level_depth (Alt choices) = suc (most choices)
level_depth (Loop id body exit) = suc (max body exit)

abbrev pub tree_nesting : Tree → ℕ
tree_nesting = fold-Tree ℕ level_depth
