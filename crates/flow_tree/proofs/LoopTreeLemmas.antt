-- The tree of a node is the same however deep it may go, where it may go deep enough.
use Rattle.std.proofs.Common.{◌≡◌, ℕ, zero, suc, ◌<◌, Option, Some, None, refl, ap, arith}
use Rattle.wsym_terms.specs.declared.trees.Tree.{Tree}
use Rattle.tree_law.specs.Levels.{Nest, loop_tree, node_of, node_tree, leaf_of}

module _ (n : Nest) (height : ℕ → ℕ) (lower : (c v d : ℕ) → n.child c v ≡ Some d → height d < height c) where
  pub deep_enough : (k j c v : ℕ) → height c < k → height c < j → node_tree n k c v ≡ node_tree n j c v
  deep_enough zero j c v h g = absurd (omega (arith, h))
  deep_enough (suc k) zero c v h g = absurd (omega (arith, g))
  deep_enough (suc k) (suc j) c v h g = by_child (λ d. deep_enough k j d) (n.child c v) refl
    where
      by_child : ((d v : ℕ) → height d < k → height d < j → node_tree n k d v ≡ node_tree n j d v) → (o : Option ℕ) → n.child c v ≡ o
          → node_of (leaf_of n) o v (node_tree n k) n.level ≡ node_of (leaf_of n) o v (node_tree n j) n.level
      by_child ih None e = refl
      by_child ih (Some d) e =
          let l = lower c v d e in
          ap (λ (tree : ℕ → Tree). loop_tree d tree (n.level d)) (λ i u. ih d u (omega (arith, h, l)) (omega (arith, g, l)) i)

  -- so the loops' trees can be made one after another, each after those inside it
  abbrev pub tree_of_loop : ℕ → Tree
  tree_of_loop d = loop_tree d (node_tree n (suc (height d)) d) (n.level d)

  abbrev pub from_table : Option ℕ → ℕ → Tree
  from_table None v = leaf_of n v
  from_table (Some d) v = tree_of_loop d

  pub node_from_table : (k c v : ℕ) → height c < k → node_tree n k c v ≡ from_table (n.child c v) v
  node_from_table zero c v h = absurd (omega (arith, h))
  node_from_table (suc k) c v h = by_child (n.child c v) refl
    where
      by_child : (o : Option ℕ) → n.child c v ≡ o → node_of (leaf_of n) o v (node_tree n k) n.level ≡ from_table o v
      by_child None e = refl
      by_child (Some d) e =
          let l = lower c v d e in
          ap (λ (tree : ℕ → Tree). loop_tree d tree (n.level d)) (λ i u. deep_enough k (suc (height d)) d u (omega (arith, h, l))
          (omega arith) i)
