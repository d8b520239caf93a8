-- The deepest edge that is left never gets less deep.
use Rattle.std.proofs.Common.{◌≡◌, ◌≢◌, ℕ, zero, suc, ◌+◌, ◌<◌, ◌≤◌, ◌⊎◌, inl, inr, max, Bool, true, false, nat_eq, List, [], ◌∷◌, ◌++◌}
use Rattle.std.proofs.Common.{map, length, refl, sym, ap, subst, ◌∙◌, arith}
use Rattle.std.specs.Prelude.{Option, Some, None}
use Rattle.std.proofs.lemmas.Bool.Decides.{nat_tests}
use Rattle.wsym_terms.specs.declared.trees.Tree.{Tree, fold-roll-Tree}
use Rattle.wsym_terms.specs.declared.trees.Tree.TheOpen.{Tree-F}
use Rattle.wsym_terms.specs.declared.trees.Tree.TheVariants.{Seq, Alt}
use Rattle.wsym_terms.specs.declared.trees.Tree.TheVariants as t
use Rattle.tree_law.specs.Ways.{members, through, taken_out, all_taken_out, IsIn}
use Rattle.tree_law.specs.NodeOrders.{without, first_least, first_then, order_in, order_of, weight_after}
use Rattle.tree_law.proofs.NodeOrderLemmas.{least_is_in, none_is_least, shorter, in_without}
use Rattle.elimination_plans.specs.PlanSteps.{some}
use Rattle.elimination_plans.specs.TreeDepths.{max_over, depth_of_members}
use Rattle.wsym_terms.specs.TreeNesting.{most, level_depth, tree_nesting}
use Rattle.elimination_plans.proofs.LinkedLevelLemmas.{some_more, some_through, Linked, still_in, new_ways, no_loop, step_linked}

pub max_map : {A : Type 0} (f : A → ℕ) (xs : List A) → most (map f xs) ≡ max_over f xs
max_map f [] = refl
max_map f (x ∷ xs) = (let r = max_map f xs in omega (arith, r))

pub max_append : {A : Type 0} (f : A → ℕ) (xs ys : List A) → max_over f (xs ++ ys) ≡ max (max_over f xs) (max_over f ys)
max_append f [] ys = omega arith
max_append f (x ∷ xs) ys = (let r = max_append f xs ys in omega (arith, r))

pub seq_depth : (ts : List Tree) → tree_nesting (Seq ts) ≡ 1 + max_over tree_nesting ts
seq_depth ts =
    let e : tree_nesting (Seq ts) ≡ suc (most (map tree_nesting ts)) = ap tree_nesting (sym (t.rolls-Seq ts))
    ∙ fold-roll-Tree ℕ level_depth (Tree-F.Seq ts) in
    let m : most (map tree_nesting ts) ≡ max_over tree_nesting ts = max_map tree_nesting ts in
    omega (arith, e, m)

alt_depth : (ts : List Tree) → tree_nesting (Alt ts) ≡ 1 + max_over tree_nesting ts
alt_depth ts =
    let e : tree_nesting (Alt ts) ≡ suc (most (map tree_nesting ts)) = ap tree_nesting (sym (t.rolls-Alt ts))
    ∙ fold-roll-Tree ℕ level_depth (Tree-F.Alt ts) in
    let m : most (map tree_nesting ts) ≡ max_over tree_nesting ts = max_map tree_nesting ts in
    omega (arith, e, m)

abbrev pub choices_deep : List (List Tree) → ℕ
choices_deep = max_over (λ w. 1 + max_over tree_nesting w)

choices_depth : (ws : List (List Tree)) → max_over tree_nesting (map Seq ws) ≡ choices_deep ws
choices_depth [] = refl
choices_depth (w ∷ ws) = (let a = seq_depth w in let b = choices_depth ws in omega (arith, a, b))

-- the depth of the members of several ways, from those of each
pub several_depth : (w u : List Tree) (ws : List (List Tree)) → depth_of_members (w ∷ u ∷ ws) ≡ 1 + choices_deep (w ∷ u ∷ ws)
several_depth w u ws = (let a = alt_depth (map Seq (w ∷ u ∷ ws)) in let b = choices_depth (w ∷ u ∷ ws) in omega (arith, a, b))

deep_more : (a b : List (List Tree)) → depth_of_members a ≤ depth_of_members (a ++ b)
deep_more [] b = omega arith
deep_more (w ∷ []) [] = omega arith
deep_more (w ∷ []) (u ∷ b) = (let r = several_depth w u b in omega (arith, r))
deep_more (w ∷ u ∷ ws) b = (let r = several_depth w u ws in let q = several_depth w u (ws ++ b) in
    let m = max_append (λ w. 1 + max_over tree_nesting w) ws b in omega (arith, r, q, m))

-- a way is no deeper than the members
last_deep : (c : List (List Tree)) (w : List Tree) → max_over tree_nesting w ≤ depth_of_members (c ++ w ∷ [])
last_deep [] w = omega arith
last_deep (y ∷ []) w = (let r = several_depth y w [] in omega (arith, r))
last_deep (y ∷ z ∷ c) w = (let r = several_depth y z (c ++ w ∷ []) in let m = max_append (λ w. 1 + max_over tree_nesting w) c (w ∷ []) in
    omega (arith, r, m))

through_deep : (c a : List (List Tree)) (x : Tree) (b : List (List Tree)) → some a ≡ true → some b ≡ true
    → (depth_of_members a ≤ depth_of_members (c ++ through a x b)) × (tree_nesting x ≤ depth_of_members (c ++ through a x b))
    × (depth_of_members b ≤ depth_of_members (c ++ through a x b))
through_deep c [] x b e f = absurd (cc)
through_deep c (a ∷ into) x [] e f = absurd (cc)
through_deep c (a ∷ into) x (b ∷ out) e f =
    let w : List Tree = members (a ∷ into) ++ x ∷ members (b ∷ out) in
    let l : max_over tree_nesting (members (a ∷ into) ++ x ∷ members (b ∷ out)) ≤ depth_of_members
    (c ++ (members (a ∷ into) ++ x ∷ members (b ∷ out)) ∷ []) = last_deep c (members (a ∷ into) ++ x ∷ members (b ∷ out)) in
    let m : max_over tree_nesting (members (a ∷ into) ++ x ∷ members (b ∷ out)) ≡ max (max_over tree_nesting (members (a ∷ into)))
    (max_over tree_nesting (x ∷ members (b ∷ out))) = max_append tree_nesting (members (a ∷ into)) (x ∷ members (b ∷ out)) in
    (omega (arith, l, m), omega (arith, l, m), omega (arith, l, m))

module _ (tree : ℕ → Tree) (s t : ℕ) (rank : ℕ → ℕ) (d : ℕ) where
  -- an edge that is left is so deep
  pub record Deep (ways : ℕ → ℕ → List (List Tree)) (left : List ℕ) : Type 0 where
    pub p : ℕ
    pub q : ℕ
    pub in_p : IsIn p (s ∷ t ∷ left)
    pub in_q : IsIn q (s ∷ t ∷ left)
    pub live : some (ways p q) ≡ true
    pub deep : d ≤ depth_of_members (ways p q)

  module _ (v : ℕ) (ways : ℕ → ℕ → List (List Tree)) (left : List ℕ) (h : Linked tree s t rank ways left) (here : IsIn v left) where
    -- the way through v, where a fact on it is so deep
    by_way : (p q : ℕ) → IsIn p (s ∷ t ∷ left) → IsIn q (s ∷ t ∷ left) → some (ways p v) ≡ true → some (ways v q) ≡ true
        → (d ≤ depth_of_members (ways p v)) ⊎ ((d ≤ tree_nesting (tree v)) ⊎ (d ≤ depth_of_members (ways v q)))
        → Deep (taken_out tree v ways) (without v left)
    by_way p q i j e f k =
        let a : p ≢ v = no_loop tree s t rank v ways left h here p v e in
        let b : q ≢ v = (λ same. no_loop tree s t rank v ways left h here v q f (sym same)) in
        let new = new_ways tree s t rank v ways left h here p q a b in
        record {
          p = p;
          q = q;
          in_p = still_in tree s t rank v p left a i;
          in_q = still_in tree s t rank v q left b j;
          live = ap some new ∙ some_through (ways p v) (ways p q) (tree v) (ways v q) e f;
          deep = subst (λ ws. d ≤ depth_of_members ws) (sym new) (either
              (depth_of_members (ways p q ++ through (ways p v) (tree v) (ways v q))) (depth_of_members (ways p v)) (tree_nesting (tree v))
              (depth_of_members (ways v q)) k (through_deep (ways p q) (ways p v) (tree v) (ways v q) e f));
        }
      where
        either : (D x y z : ℕ) → (d ≤ x) ⊎ ((d ≤ y) ⊎ (d ≤ z)) → (x ≤ D) × (y ≤ D) × (z ≤ D) → d ≤ D
        either D x y z (inl k) l = (let m = l.0 in omega (arith, k, m))
        either D x y z (inr (inl k)) l = (let m = l.1 in omega (arith, k, m))
        either D x y z (inr (inr k)) l = (let m = l.2 in omega (arith, k, m))

    -- the tree of a node goes into the ways
    pub node_deep : d ≤ tree_nesting (tree v) → Deep (taken_out tree v ways) (without v left)
    node_deep x = (let k = h.kept v here in by_way k.0.0 k.1.0 k.0.1 k.1.1 k.0.2 k.1.2 (inr (inl x)))

    pub edge_deep : Deep ways left → Deep (taken_out tree v ways) (without v left)
    edge_deep e = by_tests (nat_eq e.p v) (nat_eq e.q v) refl refl
      where
        by_tests : (b c : Bool) → nat_eq e.p v ≡ b → nat_eq e.q v ≡ c → Deep (taken_out tree v ways) (without v left)
        by_tests true c f g =
            let same : e.p ≡ v = grind (arith, nat_tests) in
            let k = (h.kept v here).0 in
            by_way k.0 e.q k.1 e.in_q k.2 (subst (λ x. some (ways x e.q) ≡ true) same e.live)
            (inr (inr (subst (λ x. d ≤ depth_of_members (ways x e.q)) same e.deep)))
        by_tests false true f g =
            let same : e.q ≡ v = grind (arith, nat_tests) in
            let k = (h.kept v here).1 in
            by_way e.p k.0 e.in_p k.1 (subst (λ x. some (ways e.p x) ≡ true) same e.live) k.2
            (inl (subst (λ x. d ≤ depth_of_members (ways e.p x)) same e.deep))
        by_tests false false f g =
            let a : e.p ≢ v = grind (arith, nat_tests) in
            let b : e.q ≢ v = grind (arith, nat_tests) in
            let new = new_ways tree s t rank v ways left h here e.p e.q a b in
            record {
              p = e.p;
              q = e.q;
              in_p = still_in tree s t rank v e.p left a e.in_p;
              in_q = still_in tree s t rank v e.q left b e.in_q;
              live = ap some new ∙ some_more (ways e.p e.q) (through (ways e.p v) (tree v) (ways v e.q)) e.live;
              deep = (let m = deep_more (ways e.p e.q) (through (ways e.p v) (tree v) (ways v e.q)) in let x = e.deep in
                  subst (λ ws. d ≤ depth_of_members ws) (sym new) (omega (arith, m, x)));
            }

  -- an edge that is left or the tree of a node that is left is so deep
  abbrev pub Deeper : (ℕ → ℕ → List (List Tree)) → List ℕ → Type 0
  Deeper ways left = Deep ways left ⊎ ((u : ℕ) × IsIn u left × (d ≤ tree_nesting (tree u)))

  step_deeper : (v : ℕ) (ways : ℕ → ℕ → List (List Tree)) (left : List ℕ) → Linked tree s t rank ways left → IsIn v left → Deeper ways left
      → Deeper (taken_out tree v ways) (without v left)
  step_deeper v ways left h i (inl e) = inl (edge_deep v ways left h i e)
  step_deeper v ways left h i (inr (u, j, x)) = either (in_without v u left j)
    where
      either : (u ≡ v) ⊎ IsIn u (without v left) → Deeper (taken_out tree v ways) (without v left)
      either (inl same) = inl (node_deep v ways left h i (subst (λ w. d ≤ tree_nesting (tree w)) same x))
      either (inr k) = inr (u, k, x)

  order_deeper : (n : ℕ) (ways : ℕ → ℕ → List (List Tree)) (left : List ℕ) → length left ≤ n → Linked tree s t rank ways left
      → Deeper ways left
      → Deep (all_taken_out tree (order_in tree s t n ways left) ways) []
      × Linked tree s t rank (all_taken_out tree (order_in tree s t n ways left) ways) []
  order_deeper zero ways [] h k e = (at_end e, k)
    where
      at_end : Deeper ways [] → Deep ways []
      at_end (inl x) = x
      at_end (inr (u, j, x)) = absurd j
  order_deeper zero ways (v ∷ vs) h k e = absurd (omega (arith, h))
  order_deeper (suc n) ways [] h k e = (at_end e, k)
    where
      at_end : Deeper ways [] → Deep ways []
      at_end (inl x) = x
      at_end (inr (u, j, x)) = absurd j
  order_deeper (suc n) ways (v ∷ vs) h k e = by_first (λ w. order_deeper n (taken_out tree w ways) (without w (v ∷ vs)))
      (first_least (weight_after tree s t ways (v ∷ vs)) (v ∷ vs)) refl
    where
      left : List ℕ
      left = v ∷ vs

      by_first : ((w : ℕ) → length (without w left) ≤ n → Linked tree s t rank (taken_out tree w ways) (without w left)
          → Deeper (taken_out tree w ways) (without w left)
          → Deep (all_taken_out tree (order_in tree s t n (taken_out tree w ways) (without w left)) (taken_out tree w ways)) []
          × Linked tree s t rank (all_taken_out tree (order_in tree s t n (taken_out tree w ways) (without w left))
          (taken_out tree w ways)) [])
          → (o : Option ℕ) → first_least (weight_after tree s t ways left) left ≡ o
          → Deep (all_taken_out tree (first_then (λ w. order_in tree s t n (taken_out tree w ways) (without w left)) o) ways) []
          × Linked tree s t rank (all_taken_out tree (first_then (λ w. order_in tree s t n (taken_out tree w ways) (without w left)) o)
          ways) []
      by_first ih None f = absurd (none_is_least (weight_after tree s t ways left) v vs f)
      by_first ih (Some w) f =
          let i = least_is_in (weight_after tree s t ways left) left w f in
          let l = shorter w left i in
          ih w (omega (arith, h, l)) (step_linked tree s t rank w ways left k i) (step_deeper w ways left k i e)

  -- so what is that deep at any time makes the tree between the ends that deep
  pub depth_stands : (ways : ℕ → ℕ → List (List Tree)) (left : List ℕ) → rank s < rank t → Linked tree s t rank ways left → Deeper ways left
      → d ≤ depth_of_members (all_taken_out tree (order_of tree s t ways left) ways s t)
  depth_stands ways left up k e = at_ends (order_deeper (length left) ways left (omega arith) k e)
    where
      W : ℕ → ℕ → List (List Tree)
      W = all_taken_out tree (order_of tree s t ways left) ways

      at_ends : Deep (all_taken_out tree (order_of tree s t ways left) ways) []
          × Linked tree s t rank (all_taken_out tree (order_of tree s t ways left) ways) []
          → d ≤ depth_of_members (all_taken_out tree (order_of tree s t ways left) ways s t)
      at_ends r = by_ends r.0.in_p r.0.in_q
        where
          x : Deep (all_taken_out tree (order_of tree s t ways left) ways) []
          x = r.0

          rises : rank x.p < rank x.q
          rises = r.1.rises x.p x.q x.live

          by_ends : IsIn x.p (s ∷ t ∷ []) → IsIn x.q (s ∷ t ∷ []) → d ≤ depth_of_members
              (all_taken_out tree (order_of tree s t ways left) ways s t)
          by_ends (inl a) (inl b) = (let m : rank x.p ≡ rank x.q = ap rank (a ∙ sym b) in let l = rises in absurd (omega (arith, m, l)))
          by_ends (inl a) (inr (inl b)) = subst (λ y. d ≤ depth_of_members (all_taken_out tree (order_of tree s t ways left) ways s y)) b
              (subst (λ y. d ≤ depth_of_members (all_taken_out tree (order_of tree s t ways left) ways y x.q)) a x.deep)
          by_ends (inr (inl a)) (inl b) = (let m : rank x.p ≡ rank t = ap rank a in let n : rank x.q ≡ rank s = ap rank b in
              let l = rises in absurd (omega (arith, m, n, l, up)))
          by_ends (inr (inl a)) (inr (inl b)) = (let m : rank x.p ≡ rank x.q = ap rank (a ∙ sym b) in let l = rises in
              absurd (omega (arith, m, l)))
          by_ends (inr (inr none)) j = absurd none
          by_ends (inl a) (inr (inr none)) = absurd none
          by_ends (inr (inl a)) (inr (inr none)) = absurd none
