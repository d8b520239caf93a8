-- The numbers of a loop's tree, from those of its parts.
use Rattle.std.proofs.Common.{◌≡◌, ℕ, suc, ◌+◌, max, List, ◌∷◌, sym, ap, ◌∙◌, arith}
use Rattle.wsym_terms.specs.TreeNesting.{level_depth, tree_nesting}
use Rattle.wsym_terms.specs.Trees.{level_size, size_of}
use Rattle.wsym_terms.specs.declared.trees.Tree.{Tree, fold-roll-Tree}
use Rattle.wsym_terms.specs.declared.trees.Tree.TheOpen.{Tree-F}
use Rattle.wsym_terms.specs.declared.trees.Tree.TheVariants.{Seq, Loop}
use Rattle.wsym_terms.specs.declared.trees.Tree.TheVariants as t
use Rattle.tree_law.specs.NodeOrders.{leaves_of, level_leaves, sum_over}
use Rattle.elimination_plans.specs.TreeDepths.{max_over}
use Rattle.elimination_plans.proofs.DepthLemmas.{seq_depth}
use Rattle.elimination_plans.proofs.LinkedLevelLemmas.{seq_size}
use Rattle.elimination_plans.proofs.WeightLemmas.{seq_leaves}
use Rattle.node_elimination.specs.declared.cells.Cell.{Cell}
use Rattle.node_elimination.specs.Cells.{node_cell}
use Rattle.flow_tree.specs.LevelNumbers.{loop_cell}

loop_leaves : (d : ℕ) (x y : Tree) → leaves_of (Loop d x y) ≡ leaves_of x + leaves_of y
loop_leaves d x y = ap leaves_of (sym (t.rolls-Loop d x y)) ∙ fold-roll-Tree ℕ level_leaves (Tree-F.Loop d x y)

pub loop_size : (d : ℕ) (x y : Tree) → size_of (Loop d x y) ≡ 1 + size_of x + size_of y
loop_size d x y = ap size_of (sym (t.rolls-Loop d x y)) ∙ fold-roll-Tree ℕ level_size (Tree-F.Loop d x y)

pub loop_depth : (d : ℕ) (x y : Tree) → tree_nesting (Loop d x y) ≡ suc (max (tree_nesting x) (tree_nesting y))
loop_depth d x y = ap tree_nesting (sym (t.rolls-Loop d x y)) ∙ fold-roll-Tree ℕ level_depth (Tree-F.Loop d x y)

-- the numbers of some trees together
pub record AreSums (ts : List Tree) (c : Cell) : Type 0 where
  pub leaves : c.leaves ≡ sum_over leaves_of ts
  pub size : c.size ≡ sum_over size_of ts
  pub depth : c.depth ≡ max_over tree_nesting ts

same_cell : (a b c x y z : ℕ) → a ≡ x → b ≡ y → c ≡ z
    → ◌≡◌ {A = Cell} (record { count = 1; leaves = a; size = b; depth = c }) (record { count = 1; leaves = x; size = y; depth = z })
same_cell a b c x y z e f g = cc

pub loop_cell_is : (d : ℕ) (a : Tree) (ts us : List Tree) (b e : Cell) → AreSums ts b → AreSums us e
    → loop_cell (node_cell a) b e ≡ node_cell (Loop d (Seq (a ∷ ts)) (Seq (a ∷ us)))
loop_cell_is d a ts us b e h k = same_cell _ _ _ _ _ _ all_leaves all_sizes all_depths
  where
    all_leaves : (leaves_of a + b.leaves) + (leaves_of a + e.leaves) ≡ leaves_of (Loop d (Seq (a ∷ ts)) (Seq (a ∷ us)))
    all_leaves =
        let l = loop_leaves d (Seq (a ∷ ts)) (Seq (a ∷ us)) in
        let x = seq_leaves (a ∷ ts) in
        let y = seq_leaves (a ∷ us) in
        let p = h.leaves in
        let q = k.leaves in
        omega (arith, l, x, y, p, q)

    all_sizes : (1 + (1 + (size_of a + b.size))) + (1 + (size_of a + e.size)) ≡ size_of (Loop d (Seq (a ∷ ts)) (Seq (a ∷ us)))
    all_sizes =
        let l = loop_size d (Seq (a ∷ ts)) (Seq (a ∷ us)) in
        let x = seq_size (a ∷ ts) in
        let y = seq_size (a ∷ us) in
        let p = h.size in
        let q = k.size in
        omega (arith, l, x, y, p, q)

    all_depths : 1 + max (1 + max (tree_nesting a) b.depth) (1 + max (tree_nesting a) e.depth) ≡ tree_nesting
        (Loop d (Seq (a ∷ ts)) (Seq (a ∷ us)))
    all_depths =
        let l = loop_depth d (Seq (a ∷ ts)) (Seq (a ∷ us)) in
        let x = seq_depth (a ∷ ts) in
        let y = seq_depth (a ∷ us) in
        let p = h.depth in
        let q = k.depth in
        omega (arith, l, x, y, p, q)
