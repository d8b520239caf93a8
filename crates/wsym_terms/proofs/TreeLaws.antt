-- The value of every tree grows with the executions, by induction over the tree.
use Rattle.std.proofs.Common.{ℕ, ◌+◌, ◌*◌, List, [], ◌∷◌, map, length, sym, subst}
use denote.Hole.Holds.{Such}
use Rattle.wsym_terms.specs.Extents.{Extent, Finite}
use Rattle.wsym_terms.specs.Trees.{Meaning, level_meaning, meaning_of, in_order, shared_out, loop_value}
use Rattle.wsym_terms.specs.declared.trees.Tree.{Tree, fold-roll-Tree, roll-Tree, ind-Tree}
use Rattle.wsym_terms.specs.declared.trees.Tree.TheOpen.{Tree-F}
use Rattle.wsym_terms.specs.declared.trees.Tree.TheOpen.Tree-F.{Leaf, Seq, Alt, Loop}
use Rattle.wsym_terms.specs.declared.trees.Tree.TheBlock.{the_family, member-Tree}
use Rattle.wsym_terms.specs.declared.trees.Tree.TheFolds.{claims, map-Tree}
use Rattle.wsym_terms.proofs.GrowthLaws.{AllGrow, Grows, if_any_grows, in_order_rises, shared_out_grows, rises, loop_rises, leaf_rises}

module _ (miss : ℕ) (bounds : ℕ → Extent) where
  abbrev pub TreeGrows : Tree → Type 0
  TreeGrows t = (depth : ℕ) → Grows ((meaning_of miss bounds t).value depth)

  abbrev Known : Type 0
  Known = Such the_family (claims TreeGrows) member-Tree

  all_known : (ys : List Known) → AllGrow (map (meaning_of miss bounds) (map (λ e. e.0) ys))
  all_known [] = tt
  all_known (y ∷ ys) = (y.1, all_known ys)

  at_level : (y : Tree-F Known) (depth : ℕ) → Grows ((level_meaning miss bounds (map-Tree Tree Meaning (meaning_of miss bounds) (map-Tree Known Tree (λ e. e.0) y))).value depth)
  at_level (Leaf block base uses) depth = if_any_grows (λ n. Finite (n * base + miss * length uses)) (leaf_rises base (miss * length uses))
  at_level (Seq ys) depth =
      let ms : List Meaning = map (meaning_of miss bounds) (map (λ e. e.0) ys) in
      if_any_grows (in_order ms depth) (in_order_rises ms depth (all_known ys))
  at_level (Alt ys) depth =
      let ms : List Meaning = map (meaning_of miss bounds) (map (λ e. e.0) ys) in
      if_any_grows (shared_out ms depth) (rises (shared_out ms depth) (shared_out_grows ms depth (all_known ys)))
  at_level (Loop id body exit) depth =
      if_any_grows (loop_value (bounds id) (meaning_of miss bounds body.0) (meaning_of miss bounds exit.0) depth)
      (loop_rises (bounds id) (meaning_of miss bounds body.0) (meaning_of miss bounds exit.0) depth body.1 exit.1)

  one_level : (y : Tree-F Known) → TreeGrows (roll-Tree (map-Tree Known Tree (λ e. e.0) y))
  one_level y depth = subst (λ (m : Meaning). Grows (m.value depth)) (sym (fold-roll-Tree Meaning (level_meaning miss bounds) (map-Tree Known Tree (λ e. e.0) y))) (at_level y depth)

  pub tree_grows : (t : Tree) → TreeGrows t
  tree_grows t = ind-Tree TreeGrows (λ x y e. subst (λ (l : Tree-F Tree). TreeGrows (roll-Tree l)) e (one_level y)) t
