-- One more tree in the table of loops' trees.
use Rattle.std.proofs.Common.{◌≡◌, ℕ, zero, suc, ◌⊎◌, inl, inr, List, [], ◌∷◌, refl, sym, ap, ◌∙◌, slice_set}
use Rattle.std.specs.Prelude.{Option, Some, None, slice_get}
use Rattle.tree_law.specs.Levels.{Nest}
use Rattle.node_elimination.specs.Cells.{node_cell}
use Rattle.flow_tree.specs.FlowTables.{AreTrees, of_table, tree_of_loop}
use Rattle.flow_tree.specs.declared.tables.LoopTree.{LoopTree}

found : (trees : List (Option LoopTree)) (i d : ℕ) (x : Option LoopTree) (t : LoopTree)
    → of_table (slice_get (slice_set trees i x) d) ≡ Some t
    → ((d ≡ i) × (x ≡ Some t)) ⊎ (of_table (slice_get trees d) ≡ Some t)
found [] i d x t e = inr e
found (y ∷ ys) zero zero x t e = inl (refl, e)
found (y ∷ ys) zero (suc d) x t e = inr e
found (y ∷ ys) (suc i) zero x t e = inr e
found (y ∷ ys) (suc i) (suc d) x t e = onward (found ys i d x t e)
  where
    onward : ((d ≡ i) × (x ≡ Some t)) ⊎ (of_table (slice_get ys d) ≡ Some t)
        → ((suc d ≡ suc i) × (x ≡ Some t)) ⊎ (of_table (slice_get ys d) ≡ Some t)
    onward (inl both) = inl (ap (λ m. suc m) both.0, both.1)
    onward (inr f) = inr f

some_is : (a b : LoopTree) → ◌≡◌ {A = Option LoopTree} (Some a) (Some b) → a ≡ b
some_is a b e = ap unwrapped e
  where
    unwrapped : Option LoopTree → LoopTree
    unwrapped None = a
    unwrapped (Some x) = x

pub tree_put : (n : Nest) (height : ℕ → ℕ) (trees : List (Option LoopTree)) (i : ℕ) (made : LoopTree) → AreTrees n height trees
    → (made.tree ≡ tree_of_loop n height i) × (made.cell ≡ node_cell (tree_of_loop n height i))
    → AreTrees n height (slice_set trees i (Some made))
tree_put n height trees i made old new d t e = by_place (found trees i d (Some made) t e)
  where
    by_place : ((d ≡ i) × (◌≡◌ {A = Option LoopTree} (Some made) (Some t))) ⊎ (of_table (slice_get trees d) ≡ Some t)
        → (t.tree ≡ tree_of_loop n height d) × (t.cell ≡ node_cell (tree_of_loop n height d))
    by_place (inr f) = old d t f
    by_place (inl both) =
        let same = some_is made t both.1 in (
          sym (ap (λ (x : LoopTree). x.tree) same) ∙ new.0 ∙ ap (tree_of_loop n height) (sym both.0),
          sym (ap (λ (x : LoopTree). x.cell) same) ∙ new.1 ∙ ap (λ m. node_cell (tree_of_loop n height m)) (sym both.0),
        )
