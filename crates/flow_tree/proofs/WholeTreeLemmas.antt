-- The tree of a whole function, from the level of the function.
use Rattle.std.proofs.Common.{◌≡◌, ℕ, zero, suc, ◌<◌, ◌≤◌, inl, inr, List, [], ◌∷◌, ◌++◌, sym, ap, subst, ◌∙◌, arith}
use Rattle.std.specs.Prelude.{Option, Some, None, slice_get}
use Rattle.wsym_terms.specs.TreeNesting.{tree_nesting}
use Rattle.wsym_terms.specs.Trees.{size_of}
use Rattle.wsym_terms.specs.declared.trees.Tree.{Tree}
use Rattle.wsym_terms.specs.declared.trees.Tree.TheVariants.{Seq}
use Rattle.tree_law.specs.Levels.{Nest, function_tree}
use Rattle.elimination_plans.specs.Stages.{tree_members}
use Rattle.elimination_plans.proofs.DepthLemmas.{seq_depth}
use Rattle.elimination_plans.proofs.LinkedLevelLemmas.{seq_size}
use Rattle.node_elimination.specs.declared.cells.Cell.{Cell}
use Rattle.node_elimination.specs.LevelPlans.{IsPast}
use Rattle.node_elimination.specs.Measures.{AreMeasures}
use Rattle.flow_tree.specs.Descriptions.{AreMade, IsTooLarge}
use Rattle.flow_tree.specs.FlowTables.{of_table}
use Rattle.flow_tree.specs.LevelTasks.{task_of}
use Rattle.flow_tree.specs.declared.tables.FlowTables.{FlowTables}
use Rattle.flow_tree.specs.declared.tables.LoopTree.{LoopTree}

module _ (n : Nest) (height : ℕ → ℕ) (leave : ℕ) (at_leave : (n.level 0).leave ≡ leave) where
  pub whole_is : Seq (tree_members (task_of n height 0 leave)) ≡ function_tree n (suc (height 0))
  whole_is = ap (λ t. Seq (tree_members (task_of n height 0 t))) (sym at_leave)

  past_seq : IsPast (task_of n height 0 leave) → IsTooLarge (Seq (tree_members (task_of n height 0 leave)))
  past_seq (inl a) = inl (let e = seq_size (tree_members (task_of n height 0 leave)) in omega (arith, a, e))
  past_seq (inr a) = inr (let e = seq_depth (tree_members (task_of n height 0 leave)) in omega (arith, a, e))

  pub past_whole : IsPast (task_of n height 0 leave) → IsTooLarge (function_tree n (suc (height 0)))
  past_whole p = subst IsTooLarge whole_is (past_seq p)

  pub large_size : (c : Cell) → AreMeasures (task_of n height 0 leave) c → 500000 ≤ c.size → IsTooLarge (function_tree n (suc (height 0)))
  large_size c m h = subst IsTooLarge whole_is (inl (let e = seq_size (tree_members (task_of n height 0 leave)) in let f = m.size in
      omega (arith, h, e, f)))

  pub large_depth : (c : Cell) → AreMeasures (task_of n height 0 leave) c → 1000 ≤ c.depth → IsTooLarge (function_tree n (suc (height 0)))
  large_depth c m h = subst IsTooLarge whole_is (inr (let e = seq_depth (tree_members (task_of n height 0 leave)) in let f = m.depth in
      omega (arith, h, e, f)))

  pub whole_made : (c : Cell) (ts : List Tree) → AreMeasures (task_of n height 0 leave) c → c.size < 500000 → c.depth < 1000
      → ts ≡ tree_members (task_of n height 0 leave)
      → (Seq ts ≡ function_tree n (suc (height 0))) × (size_of (Seq ts) ≤ 500000) × (tree_nesting (Seq ts) ≤ 1000)
  whole_made c ts m small shallow is = (ap Seq is ∙ whole_is, sizes, depths)
    where
      sizes : size_of (Seq ts) ≤ 500000
      sizes = subst (λ us. size_of (Seq us) ≤ 500000) (sym is)
          (let e = seq_size (tree_members (task_of n height 0 leave)) in let f = m.size in omega (arith, e, f, small))

      depths : tree_nesting (Seq ts) ≤ 1000
      depths = subst (λ us. tree_nesting (Seq us) ≤ 1000) (sym is)
          (let e = seq_depth (tree_members (task_of n height 0 leave)) in let f = m.depth in omega (arith, e, f, shallow))

-- a table without trees
none_found : (xs : List (Option LoopTree)) (d : ℕ) (t : LoopTree) → of_table (slice_get (xs ++ None ∷ []) d) ≡ Some t
    → of_table (slice_get xs d) ≡ Some t
none_found [] zero t e = e
none_found [] (suc d) t e = e
none_found (x ∷ xs) zero t e = e
none_found (x ∷ xs) (suc d) t e = none_found xs d t e

pub none_made : (f : FlowTables) (xs ys : List (Option LoopTree)) → ys ≡ xs ++ None ∷ [] → AreMade f xs → AreMade f ys
none_made f xs ys e made n height rank h d t g = made n height rank h d t
    (none_found xs d t (ap (λ zs. of_table (slice_get zs d)) (sym e) ∙ g))

pub empty_made : (f : FlowTables) (xs : List (Option LoopTree)) → xs ≡ [] → AreMade f xs
empty_made f xs e n height rank h d t g = absurd (no (ap (λ zs. of_table (slice_get zs d)) (sym e) ∙ g))
  where
    no : of_table (slice_get {X = Option LoopTree} [] d) ≡ Some t → ⊥
    no z = cc
