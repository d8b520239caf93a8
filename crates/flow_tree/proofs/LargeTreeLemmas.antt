-- A tree that is too large makes the level round it too large, and a level its loop.
use Rattle.std.proofs.Common.{◌≡◌, ℕ, zero, suc, ◌+◌, ◌<◌, ◌≤◌, ◌⊎◌, inl, inr, List, [], ◌∷◌, refl, sym, ap, subst, ◌∙◌, arith}
use Rattle.std.specs.Prelude.{Bool, true, false, cond}
use Rattle.std.specs.Ordering.{nat_cmp}
use Rattle.std.specs.BTreeMap.{is_at}
use Rattle.std.specs.BTreeSet as set
use Rattle.std.specs.BTreeSet.{BTreeSet}
use Rattle.std.proofs.lemmas.Bool.Decides.{nat_tests}
use Rattle.wsym_terms.specs.TreeNesting.{tree_nesting}
use Rattle.wsym_terms.specs.Trees.{size_of}
use Rattle.wsym_terms.specs.declared.trees.Tree.{Tree}
use Rattle.wsym_terms.specs.declared.trees.Tree.TheVariants.{Seq, Loop}
use Rattle.tree_law.specs.Ways.{IsIn, edge_ways}
use Rattle.tree_law.specs.NodeOrders.{sum_over}
use Rattle.tree_law.specs.Levels.{IsEnd, Nest, node_tree}
use Rattle.elimination_plans.specs.Stages.{Task, tree_members}
use Rattle.elimination_plans.specs.TreeDepths.{max_over}
use Rattle.elimination_plans.specs.Weights.{mass}
use Rattle.elimination_plans.proofs.DepthLemmas.{depth_stands, seq_depth}
use Rattle.elimination_plans.proofs.LinkedLevelLemmas.{Linked, mass_stands, seq_size}
use Rattle.elimination_plans.proofs.StartLemmas.{start_linked}
use Rattle.node_elimination.specs.LevelPlans.{IsPast}
use Rattle.node_elimination.specs.LevelStates.{IsTask}
use Rattle.node_elimination.specs.Measures.{nesting_between, size_between}
use Rattle.node_elimination.proofs.ReachedStageLemmas.{only_rising, rises_is}
use Rattle.flow_tree.specs.Descriptions.{IsTooLarge}
use Rattle.flow_tree.specs.FlowTables.{tree_of_loop}
use Rattle.flow_tree.specs.LevelTasks.{task_of}
use Rattle.flow_tree.proofs.LoopCellLemmas.{loop_depth, loop_size}

in_sum : (f : ℕ → ℕ) (xs : List ℕ) (v : ℕ) → IsIn v xs → f v ≤ sum_over f xs
in_sum f [] v i = absurd i
in_sum f (x ∷ xs) v (inl e) = (let g : f v ≡ f x = ap f e in omega (arith, g))
in_sum f (x ∷ xs) v (inr i) = (let r = in_sum f xs v i in omega (arith, r))

module _ (k : Task) (rank : ℕ → ℕ) (h : IsTask k rank) where
  linked : Linked k.tree k.from k.to rank (edge_ways k.edge) k.nodes
  linked = start_linked k.tree k.from k.to rank k.edge k.nodes h.rises h.kept h.start h.end
      (λ v i. only_rising k.nodes v (rises_is k.nodes h.rising) i)

  -- the tree of a node stands between the ends
  pub node_past : (v : ℕ) → IsIn v k.nodes → IsTooLarge (k.tree v) → IsPast k
  node_past v i (inl a) =
      inl (let m : mass size_of k.tree k.from k.to (edge_ways k.edge) k.nodes ≤ size_between k = mass_stands k.tree k.from k.to rank
      (edge_ways k.edge) k.nodes h.up linked in
      let n = in_sum (λ u. size_of (k.tree u)) k.nodes v i in
      omega (arith, a, m, n))
  node_past v i (inr a) =
      inr (let d : tree_nesting (k.tree v) ≤ nesting_between k
      = depth_stands k.tree k.from k.to rank (tree_nesting (k.tree v)) (edge_ways k.edge) k.nodes h.up linked (inr (v, i, omega arith)) in
      omega (arith, a, d))

-- what is between two ends of a loop's level stands in the loop's tree
body_large : (d : ℕ) (a : Tree) (ts us : List Tree) → (500000 < sum_over size_of ts) ⊎ (1000 < max_over tree_nesting ts)
    → IsTooLarge (Loop d (Seq (a ∷ ts)) (Seq (a ∷ us)))
body_large d a ts us (inl h) = inl (let l = loop_size d (Seq (a ∷ ts)) (Seq (a ∷ us)) in let x = seq_size (a ∷ ts) in
    omega (arith, l, x, h))
body_large d a ts us (inr h) = inr (let l = loop_depth d (Seq (a ∷ ts)) (Seq (a ∷ us)) in let x = seq_depth (a ∷ ts) in
    omega (arith, l, x, h))

exit_large : (d : ℕ) (a : Tree) (ts us : List Tree) → (500000 < sum_over size_of us) ⊎ (1000 < max_over tree_nesting us)
    → IsTooLarge (Loop d (Seq (a ∷ ts)) (Seq (a ∷ us)))
exit_large d a ts us (inl h) = inl (let l = loop_size d (Seq (a ∷ ts)) (Seq (a ∷ us)) in let x = seq_size (a ∷ us) in
    omega (arith, l, x, h))
exit_large d a ts us (inr h) = inr (let l = loop_depth d (Seq (a ∷ ts)) (Seq (a ∷ us)) in let x = seq_depth (a ∷ us) in
    omega (arith, l, x, h))

module _ (n : Nest) (height : ℕ → ℕ) where
  -- a loop one of whose parts is too large
  pub loop_large : (c t : ℕ) → IsEnd (n.level c) t → IsPast (task_of n height c t) → IsTooLarge (tree_of_loop n height c)
  loop_large c t (inl e) p =
      body_large c (node_tree n (suc (height c)) c (n.level c).header) (tree_members (task_of n height c (n.level c).close))
      (tree_members (task_of n height c (n.level c).leave)) (subst (λ u. IsPast (task_of n height c u)) e p)
  loop_large c t (inr e) p =
      exit_large c (node_tree n (suc (height c)) c (n.level c).header) (tree_members (task_of n height c (n.level c).close))
      (tree_members (task_of n height c (n.level c).leave)) (subst (λ u. IsPast (task_of n height c u)) e p)

-- one more loop among those whose trees are too large
pub large_put : (n : Nest) (height : ℕ → ℕ) (old new : BTreeSet ℕ) (c : ℕ)
    → ((d : ℕ) → set.contains nat_cmp new d ≡ cond (is_at (nat_cmp c) d) true (set.contains nat_cmp old d))
    → IsTooLarge (tree_of_loop n height c) → ((d : ℕ) → set.contains nat_cmp old d ≡ true → IsTooLarge (tree_of_loop n height d))
    → (d : ℕ) → set.contains nat_cmp new d ≡ true → IsTooLarge (tree_of_loop n height d)
large_put n height old new c updates is before d h = by_test (is_at (nat_cmp c) d) refl (sym (updates d) ∙ h)
  where
    same : (c d : ℕ) → is_at (nat_cmp c) d ≡ true → c ≡ d
    same c d e = grind (arith, nat_tests)

    by_test : (b : Bool) → is_at (nat_cmp c) d ≡ b → cond b true (set.contains nat_cmp old d) ≡ true → IsTooLarge (tree_of_loop n height d)
    by_test true e k = subst (λ x. IsTooLarge (tree_of_loop n height x)) (same c d e) is
    by_test false e k = before d k
