-- A level of the nest that tables describe has the trees that the tables have.
use Rattle.std.proofs.Common.{◌≡◌, ℕ, suc, ◌+◌, List, length, refl, sym, ap, subst, ◌∙◌, arith}
use Rattle.std.specs.Prelude.{true, Option, Some, None, slice_get}
use Rattle.std.specs.Ordering.{nat_cmp}
use Rattle.std.specs.BTreeSet as set
use Rattle.std.proofs.lemmas.Bool.{false≢true}
use Rattle.wsym_terms.specs.TreeNesting.{level_depth, tree_nesting}
use Rattle.wsym_terms.specs.Trees.{level_size, size_of}
use Rattle.wsym_terms.specs.declared.trees.BlockUses.{BlockUses}
use Rattle.wsym_terms.specs.declared.trees.Use.{Use}
use Rattle.wsym_terms.specs.declared.trees.Tree.{Tree, fold-roll-Tree}
use Rattle.wsym_terms.specs.declared.trees.Tree.TheOpen.{Tree-F}
use Rattle.wsym_terms.specs.declared.trees.Tree.TheVariants.{Leaf}
use Rattle.wsym_terms.specs.declared.trees.Tree.TheVariants as t
use Rattle.tree_law.specs.Levels.{Nest, leaf_of, node_tree}
use Rattle.tree_law.specs.NodeOrders.{leaves_of, level_leaves}
use Rattle.node_elimination.specs.declared.cells.Cell.{Cell}
use Rattle.node_elimination.specs.Cells.{node_cell}
use Rattle.flow_tree.specs.FlowTables.{AreTables, AreTasks, AreTrees, cell_had, cell_in, child_by, leaf_cell, node_had, of_table, tree_in}
use Rattle.flow_tree.specs.FlowTables.{tree_of_loop}
use Rattle.flow_tree.specs.Descriptions.{IsTooLarge}
use Rattle.flow_tree.specs.LevelNumbers.{IsLevelOf, large_in}
use Rattle.flow_tree.specs.declared.nodes.LevelNodes.{LevelNodes}
use Rattle.flow_tree.specs.declared.tables.LevelRows.{LevelRows}
use Rattle.flow_tree.specs.declared.tables.LoopTree.{LoopTree}
use Rattle.flow_tree.proofs.LoopTreeLemmas.{from_table, node_from_table}

some_is : {A : Type 0} (d a b : A) → ◌≡◌ {A = Option A} (Some a) (Some b) → a ≡ b
some_is {A} d a b e = ap (unwrapped d) e
  where
    unwrapped : A → Option A → A
    unwrapped z None = z
    unwrapped z (Some x) = x

-- a leaf's numbers
leaf_leaves : (v base : ℕ) (uses : List Use) → leaves_of (Leaf v base uses) ≡ 1
leaf_leaves v base uses = ap leaves_of (sym (t.rolls-Leaf v base uses)) ∙ fold-roll-Tree ℕ level_leaves (Tree-F.Leaf v base uses)

leaf_size : (v base : ℕ) (uses : List Use) → size_of (Leaf v base uses) ≡ 1 + length uses
leaf_size v base uses = ap size_of (sym (t.rolls-Leaf v base uses)) ∙ fold-roll-Tree ℕ level_size (Tree-F.Leaf v base uses)

leaf_depth : (v base : ℕ) (uses : List Use) → tree_nesting (Leaf v base uses) ≡ 1
leaf_depth v base uses = ap tree_nesting (sym (t.rolls-Leaf v base uses)) ∙ fold-roll-Tree ℕ level_depth (Tree-F.Leaf v base uses)

same_cell : (a b c x y z : ℕ) → a ≡ x → b ≡ y → c ≡ z
    → ◌≡◌ {A = Cell} (record { count = 1; leaves = a; size = b; depth = c }) (record { count = 1; leaves = x; size = y; depth = z })
same_cell a b c x y z e f g = cc

leaf_cell_is : (v : ℕ) (b : BlockUses) → leaf_cell b ≡ node_cell (Leaf v b.base b.uses)
leaf_cell_is v b = same_cell _ _ _ _ _ _ (sym (leaf_leaves v b.base b.uses)) (sym (leaf_size v b.base b.uses))
    (sym (leaf_depth v b.base b.uses))

module _ (n : Nest) (height : ℕ → ℕ) (rank : ℕ → ℕ → ℕ) (tasks : AreTasks n height rank) (trees : List (Option LoopTree))
    (made : AreTrees n height trees)
    (blocks : List BlockUses)
    (costs : (b : ℕ) (u : BlockUses) → slice_get blocks b ≡ Some u → (n.base b ≡ u.base) × (n.uses b ≡ u.uses)) where
  leaf_same : (v : ℕ) (b : BlockUses) → slice_get blocks v ≡ Some b → Leaf v b.base b.uses ≡ leaf_of n v
  leaf_same v b e = sym (let c = costs v b e in leaf_cc v (n.base v) b.base (n.uses v) b.uses c.0 c.1)
    where
      leaf_cc : (v x y : ℕ) (us ws : List Use) → x ≡ y → us ≡ ws → Leaf v x us ≡ Leaf v y ws
      leaf_cc v x y us ws p q = cc

  tree_same : (v : ℕ) (x : Tree) (bo : Option BlockUses) (o : Option ℕ) → slice_get blocks v ≡ bo → node_had v trees bo o ≡ Some x
      → x ≡ from_table n height tasks.lower o v
  tree_same v x None o b e = absurd (cc)
  tree_same v x (Some u) None b e = sym (some_is x (Leaf v u.base u.uses) x e) ∙ leaf_same v u b
  tree_same v x (Some u) (Some d) b e = by_entry (of_table (slice_get trees d)) refl e
    where
      by_entry : (l : Option LoopTree) → of_table (slice_get trees d) ≡ l → tree_in l ≡ Some x → x ≡ tree_of_loop n height d
      by_entry None f g = absurd (cc)
      by_entry (Some l) f g = sym (some_is x l.tree x g) ∙ (made d l f).0

  cell_same : (v : ℕ) (x : Cell) (bo : Option BlockUses) (o : Option ℕ) → slice_get blocks v ≡ bo → cell_had trees bo o ≡ Some x
      → x ≡ node_cell (from_table n height tasks.lower o v)
  cell_same v x None o b e = absurd (cc)
  cell_same v x (Some u) None b e = sym (some_is x (leaf_cell u) x e) ∙ leaf_cell_is v u ∙ ap node_cell (leaf_same v u b)
  cell_same v x (Some u) (Some d) b e = by_entry (of_table (slice_get trees d)) refl e
    where
      by_entry : (l : Option LoopTree) → of_table (slice_get trees d) ≡ l → cell_in l ≡ Some x → x ≡ node_cell (tree_of_loop n height d)
      by_entry None f g = absurd (cc)
      by_entry (Some l) f g = sym (some_is x l.cell x g) ∙ (made d l f).1

pub level_of : (n : Nest) (height : ℕ → ℕ) (rank : ℕ → ℕ → ℕ) (s : LevelNodes) (levels : List LevelRows) (rows : LevelRows)
    → AreTables s.count s.close s.leave s.nest.now levels s.blocks.now n → AreTasks n height rank → AreTrees n height s.trees.now
    → ((d : ℕ) → set.contains nat_cmp s.large.now d ≡ true → IsTooLarge (tree_of_loop n height d))
    → slice_get levels s.level ≡ Some rows → IsLevelOf n height rank s rows
level_of n height rank s levels rows h tasks made past at =
    record {
      tasks = tasks;
      header = h.headers s.level;
      close = h.closes s.level;
      leave = h.leaves s.level;
      turning = h.turning s.level rows at;
      leaving = h.leaving s.level rows at;
      below = λ t v e i. h.inside s.level t v e i;
      trees = λ v x e. tree_same n height rank tasks s.trees.now made s.blocks.now h.costs v x (slice_get s.blocks.now v)
          (child_by s.count s.nest.now s.level v) refl e
          ∙ sym (node_is v);
      cells = λ v x e. cell_same n height rank tasks s.trees.now made s.blocks.now h.costs v x (slice_get s.blocks.now v)
          (child_by s.count s.nest.now s.level v) refl e
          ∙ ap node_cell (sym (node_is v));
      large = λ v e. subst IsTooLarge (sym (node_is v)) (by_child v (child_by s.count s.nest.now s.level v) e);
    }
  where
    by_child : (v : ℕ) (o : Option ℕ) → large_in s.large.now o ≡ true → IsTooLarge (from_table n height tasks.lower o v)
    by_child v None e = absurd (false≢true e)
    by_child v (Some d) e = past d e

    node_is : (v : ℕ) → node_tree n (suc (height s.level)) s.level v ≡ from_table n height tasks.lower
        (child_by s.count s.nest.now s.level v) v
    node_is v =
        node_from_table n height tasks.lower (suc (height s.level)) s.level v (omega arith)
        ∙ ap (λ o. from_table n height tasks.lower o v) (h.children s.level v)
