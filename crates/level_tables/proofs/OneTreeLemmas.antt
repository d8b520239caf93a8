-- Levels of one flow graph, with one nest of loops and one list of leaves, have one tree: their edges are the same, and so
-- is what lies on paths to their ends.
use Rattle.std.proofs.Common.{◌≡◌, ℕ, zero, suc, ◌+◌, ◌<◌, ◌⊎◌, inl, inr, Bool, true, false, List, [], ◌∷◌, refl, sym, ap, subst, ◌∙◌, arith}
use Rattle.std.specs.Prelude.{Option, Some, None, slice_get}
use Rattle.std.specs.List.{AllByRecursion}
use Rattle.std.proofs.Math.Path.{fun_ext}
use Rattle.wsym_terms.specs.declared.trees.BlockUses.{BlockUses}
use Rattle.wsym_terms.specs.declared.trees.Tree.{Tree}
use Rattle.wsym_terms.specs.declared.trees.Tree.TheVariants.{Leaf, Loop, Seq}
use Rattle.graph_search.specs.Flows.{Flow}
use Rattle.interval_loops.specs.declared.nest.LoopNest.{LoopNest}
use Rattle.interval_loops.specs.Loops.{node_in}
use Rattle.interval_loops.specs.Nests.{loops_of}
use Rattle.tree_law.specs.LevelEdges.{Reaches}
use Rattle.tree_law.specs.Levels.{IsEnd, Nest, between, function_tree, leaf_of, loop_tree, node_of, node_tree}
use Rattle.tree_law.specs.NodeOrders.{order_of}
use Rattle.tree_law.specs.Ways.{IsIn, all_taken_out, edge_ways, members}
use Rattle.node_elimination.specs.LevelStates.{Rises}
use Rattle.level_tables.specs.ExactEdges.{IsExactEdge}
use Rattle.level_tables.specs.FlowLevels.{IsLevelsOf}

-- ---- lists that ascend

both_ways : (x y : Bool) → (x ≡ true → y ≡ true) → (y ≡ true → x ≡ true) → x ≡ y
both_ways true true f g = refl
both_ways true false f g = sym (f refl)
both_ways false true f g = g refl
both_ways false false f g = refl

all_above : (x u : ℕ) (xs : List ℕ) → AllByRecursion (λ y. x < y) xs → IsIn u xs → x < u
all_above x u [] up i = absurd i
all_above x u (y ∷ ys) up (inl e) = let less = up.0 in omega (arith, less, e)
all_above x u (y ∷ ys) up (inr i) = all_above x u ys up.1 i

not_itself : (x u : ℕ) (xs : List ℕ) → AllByRecursion (λ y. x < y) xs → u ≡ x → IsIn u xs → ⊥
not_itself x u xs up e i = let less = all_above x u xs up i in omega (arith, less, e)

-- the rest of a list, where the first of both are the same
rest_of : (x y u : ℕ) (xs ys : List ℕ) → x ≡ y → AllByRecursion (λ z. x < z) xs → (IsIn u (x ∷ xs) → IsIn u (y ∷ ys))
    → IsIn u xs → IsIn u ys
rest_of x y u xs ys same up into i = by_case (into (inr i))
  where
    by_case : IsIn u (y ∷ ys) → IsIn u ys
    by_case (inl e) = absurd (not_itself x u xs up (e ∙ sym same) i)
    by_case (inr k) = k

first_same : (x y : ℕ) (xs ys : List ℕ) → AllByRecursion (λ z. x < z) xs → AllByRecursion (λ z. y < z) ys
    → IsIn x (y ∷ ys) → IsIn y (x ∷ xs) → x ≡ y
first_same x y xs ys up up2 (inl e) j = e
first_same x y xs ys up up2 (inr i) (inl f) = sym f
first_same x y xs ys up up2 (inr i) (inr j) =
    let a = all_above y x ys up2 i in let b = all_above x y xs up j in absurd (omega (arith, a, b))

ap_cons : (x y : ℕ) (xs ys : List ℕ) → x ≡ y → xs ≡ ys → x ∷ xs ≡ y ∷ ys
ap_cons x y xs ys e f = ap (λ z. z ∷ xs) e ∙ ap (λ zs. y ∷ zs) f

rising_same : (xs ys : List ℕ) → Rises xs → Rises ys → ((u : ℕ) → IsIn u xs → IsIn u ys) → ((u : ℕ) → IsIn u ys → IsIn u xs)
    → xs ≡ ys
rising_same [] [] up up2 into back = refl
rising_same [] (y ∷ ys) up up2 into back = absurd (back y (inl refl))
rising_same (x ∷ xs) [] up up2 into back = absurd (into x (inl refl))
rising_same (x ∷ xs) (y ∷ ys) up up2 into back =
    let same : x ≡ y = first_same x y xs ys up.0 up2.0 (into x (inl refl)) (back y (inl refl)) in
    ap_cons x y xs ys same
    (rising_same xs ys up.1 up2.1 (λ u. rest_of x y u xs ys same up.0 (into u))
    (λ u. rest_of y x u ys xs (sym same) up2.0 (back u)))

module _ (flow : Flow) (n : LoopNest) (uses : List BlockUses) where
  -- ---- edges

  module _ (b : Nest) (is : IsLevelsOf flow n uses b) where
    edge_in : (c p q : ℕ) → IsExactEdge flow n c p q → (b.level c).edge p q ≡ true
    edge_in c p q (inl o) =
        subst (λ x. (b.level c).edge x q ≡ true) o.from (subst (λ y. (b.level c).edge (node_in (loops_of flow n) c o.u) y ≡ true) o.to
        (is.all.goes c o.u o.v o.in_u o.in_v o.edge o.no_turn o.apart))
    edge_in c p q (inr (inl (u, v, i, j, e, h, from, to))) =
        subst (λ x. (b.level c).edge x q ≡ true) from
        (subst (λ y. (b.level c).edge (node_in (loops_of flow n) c u) y ≡ true) (is.are.closes c ∙ sym to)
        (is.all.turns c u v i j e h))
    edge_in c p q (inr (inr (inl (u, i, o, from, to)))) =
        subst (λ x. (b.level c).edge x q ≡ true) from
        (subst (λ y. (b.level c).edge (node_in (loops_of flow n) c u) y ≡ true) (is.are.leaves c ∙ sym to)
        (is.all.leaves c u i o))
    edge_in c p q (inr (inr (inr (z, from, to)))) =
        subst (λ k. (b.level k).edge p q ≡ true) (sym z) (subst (λ x. (b.level 0).edge x q ≡ true) (is.are.headers 0 ∙ sym from)
        (subst (λ y. (b.level 0).edge (b.level 0).header y ≡ true) to is.all.first))

  abbrev IsLast : ℕ → Type 0
  IsLast t = (t ≡ flow.count + 1) ⊎ (t ≡ flow.count + 2)

  end_in : (b : Nest) → IsLevelsOf flow n uses b → (c t : ℕ) → IsLast t → IsEnd (b.level c) t
  end_in b is c t (inl e) = inl (e ∙ sym (is.are.closes c))
  end_in b is c t (inr e) = inr (e ∙ sym (is.are.leaves c))

  module _ (a b : Nest) (is_a : IsLevelsOf flow n uses a) (is_b : IsLevelsOf flow n uses b) where
    same_edges : (c : ℕ) → (a.level c).edge ≡ (b.level c).edge
    same_edges c =
        fun_ext (λ p. fun_ext (λ q. both_ways ((a.level c).edge p q) ((b.level c).edge p q)
        (λ e. edge_in b is_b c p q (is_a.edges c p q e)) (λ e. edge_in a is_a c p q (is_b.edges c p q e))))

    same_header : (c : ℕ) → (a.level c).header ≡ (b.level c).header
    same_header c = is_a.are.headers c ∙ sym (is_b.are.headers c)

  -- what is on paths in some levels is so in others
  useful_in : (a b : Nest) (is_a : IsLevelsOf flow n uses a) (is_b : IsLevelsOf flow n uses b) (c t p q : ℕ) → IsLast t
      → (a.level c).useful t p q ≡ true → (b.level c).useful t p q ≡ true
  useful_in a b is_a is_b c t p q last e =
      let end = end_in a is_a c t last in
      let edges = same_edges a b is_a is_b c in
      let path = is_a.exact.on_path c t p q end e in
      let here : (a.level c).edge p q ≡ true = is_a.are.used c t p q end e in
      is_b.are.kept c t p q (end_in b is_b c t last) (subst (λ f. f p q ≡ true) edges here)
      (subst (λ h. (p ≡ h) ⊎ Reaches (b.level c).edge h p) (same_header a b is_a is_b c)
      (subst (λ f. (p ≡ (a.level c).header) ⊎ Reaches f (a.level c).header p) edges path.0))
      (subst (λ f. (q ≡ t) ⊎ Reaches f q t) edges path.1)

  node_in_levels : (a b : Nest) (is_a : IsLevelsOf flow n uses a) (is_b : IsLevelsOf flow n uses b) (c t u : ℕ) → IsLast t
      → IsIn u ((a.level c).nodes t) → IsIn u ((b.level c).nodes t)
  node_in_levels a b is_a is_b c t u last i =
      let edges = same_edges a b is_a is_b c in
      let path = is_a.are.only c t u (end_in a is_a c t last) i in
      is_b.are.between c t u (end_in b is_b c t last)
      (subst (λ h. Reaches (b.level c).edge h u) (same_header a b is_a is_b c)
      (subst (λ f. Reaches f (a.level c).header u) edges path.0))
      (subst (λ f. Reaches f u t) edges path.1)

  module _ (a b : Nest) (is_a : IsLevelsOf flow n uses a) (is_b : IsLevelsOf flow n uses b) where
    same_useful : (c t : ℕ) → IsLast t → (a.level c).useful t ≡ (b.level c).useful t
    same_useful c t last =
        fun_ext (λ p. fun_ext (λ q. both_ways ((a.level c).useful t p q) ((b.level c).useful t p q)
        (useful_in a b is_a is_b c t p q last) (useful_in b a is_b is_a c t p q last)))

    same_nodes : (c t : ℕ) → IsLast t → (a.level c).nodes t ≡ (b.level c).nodes t
    same_nodes c t last =
        rising_same ((a.level c).nodes t) ((b.level c).nodes t) (is_a.exact.ascending c t (end_in a is_a c t last))
        (is_b.exact.ascending c t (end_in b is_b c t last)) (λ u. node_in_levels a b is_a is_b c t u last)
        (λ u. node_in_levels b a is_b is_a c t u last)

    -- ---- trees

    abbrev over : (ℕ → Tree) → ℕ → ℕ → (ℕ → ℕ → Bool) → List ℕ → List Tree
    over tree s t useful nodes =
        members (all_taken_out tree (order_of tree s t (edge_ways useful) nodes) (edge_ways useful) s t)

    same_between : (tree : ℕ → Tree) (c s t : ℕ) → IsLast t → between tree (a.level c) s t ≡ between tree (b.level c) s t
    same_between tree c s t last =
        ap (λ f. over tree s t f ((a.level c).nodes t)) (same_useful c t last)
        ∙ ap (over tree s t ((b.level c).useful t)) (same_nodes c t last)

    same_close : (c : ℕ) → (a.level c).close ≡ (b.level c).close
    same_close c = is_a.are.closes c ∙ sym (is_b.are.closes c)

    same_leave : (c : ℕ) → (a.level c).leave ≡ (b.level c).leave
    same_leave c = is_a.are.leaves c ∙ sym (is_b.are.leaves c)

    to_close : (tree : ℕ → Tree) (c : ℕ) → between tree (a.level c) (a.level c).header (a.level c).close
        ≡ between tree (b.level c) (b.level c).header (b.level c).close
    to_close tree c =
        same_between tree c (a.level c).header (a.level c).close (inl (is_a.are.closes c))
        ∙ (ap (λ h. between tree (b.level c) h (a.level c).close) (same_header a b is_a is_b c)
        ∙ ap (between tree (b.level c) (b.level c).header) (same_close c))

    to_leave : (tree : ℕ → Tree) (c : ℕ) → between tree (a.level c) (a.level c).header (a.level c).leave
        ≡ between tree (b.level c) (b.level c).header (b.level c).leave
    to_leave tree c =
        same_between tree c (a.level c).header (a.level c).leave (inr (is_a.are.leaves c))
        ∙ (ap (λ h. between tree (b.level c) h (a.level c).leave) (same_header a b is_a is_b c)
        ∙ ap (between tree (b.level c) (b.level c).header) (same_leave c))

    same_loop : (tree : ℕ → Tree) (c : ℕ) → loop_tree c tree (a.level c) ≡ loop_tree c tree (b.level c)
    same_loop tree c =
        ap (λ h. Loop c (Seq (tree h ∷ between tree (a.level c) (a.level c).header (a.level c).close))
        (Seq (tree h ∷ between tree (a.level c) (a.level c).header (a.level c).leave))) (same_header a b is_a is_b c)
        ∙ (ap (λ ts. Loop c (Seq (tree (b.level c).header ∷ ts))
        (Seq (tree (b.level c).header ∷ between tree (a.level c) (a.level c).header (a.level c).leave))) (to_close tree c)
        ∙ ap (λ ts. Loop c (Seq (tree (b.level c).header ∷ between tree (b.level c) (b.level c).header (b.level c).close))
        (Seq (tree (b.level c).header ∷ ts))) (to_leave tree c))

    leaf_by : (v : ℕ) → (a.base v ≡ b.base v) × (a.uses v ≡ b.uses v) → leaf_of a v ≡ leaf_of b v
    leaf_by v (base, us) = ap (λ k. Leaf v k (a.uses v)) base ∙ ap (Leaf v (b.base v)) us

    same_leaf : (v : ℕ) → leaf_of a v ≡ leaf_of b v
    same_leaf v = leaf_by v (by_given (slice_get uses v) refl)
      where
        by_given : (o : Option BlockUses) → slice_get uses v ≡ o → (a.base v ≡ b.base v) × (a.uses v ≡ b.uses v)
        by_given None e =
            ((is_a.others v e).0 ∙ sym (is_b.others v e).0, (is_a.others v e).1 ∙ sym (is_b.others v e).1)
        by_given (Some u) e =
            ((is_a.costs v u e).0 ∙ sym (is_b.costs v u e).0, (is_a.costs v u e).1 ∙ sym (is_b.costs v u e).1)

    same_node : (k : ℕ) → ((c : ℕ) → node_tree a k c ≡ node_tree b k c) → (v : ℕ) (o : Option ℕ)
        → node_of (leaf_of a) o v (node_tree a k) a.level ≡ node_of (leaf_of b) o v (node_tree b k) b.level
    same_node k below v None = same_leaf v
    same_node k below v (Some d) = ap (λ tree. loop_tree d tree (a.level d)) (below d) ∙ same_loop (node_tree b k d) d

    same_trees : (k c : ℕ) → node_tree a k c ≡ node_tree b k c
    same_trees zero c = refl
    same_trees (suc k) c =
        fun_ext (λ v. ap (λ o. node_of (leaf_of a) o v (node_tree a k) a.level)
        (is_a.are.children c v ∙ sym (is_b.are.children c v)) ∙ same_node k (same_trees k) v (b.child c v))

    pub one_tree : (k : ℕ) → function_tree a k ≡ function_tree b k
    one_tree k =
        ap (λ tree. Seq (between tree (a.level 0) (a.level 0).header (a.level 0).leave)) (same_trees k 0)
        ∙ ap Seq (to_leave (node_tree b k 0) 0)
