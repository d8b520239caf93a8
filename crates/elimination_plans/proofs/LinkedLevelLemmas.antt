-- Each node that is left keeps an edge into it and one out of it, so that what stands in the ways at any time stands in the tree.
use Rattle.std.proofs.Common.{◌≡◌, ◌≢◌, ℕ, zero, suc, ◌+◌, ◌<◌, ◌≤◌, ◌⊎◌, inl, inr, Bool, true, false, if◌then◌else◌, ◌||◌, nat_eq, List}
use Rattle.std.proofs.Common.{[], ◌∷◌, ◌++◌, map, length, refl, sym, ap, subst, ◌∙◌, arith}
use Rattle.std.specs.Prelude.{Option, Some, None}
use Rattle.std.specs.List.{AllByRecursion, sum_by}
use Rattle.std.proofs.lemmas.Bool.Decides.{nat_tests}
use Rattle.std.proofs.lemmas.List.Sums.{sum_by-cons, sum-map}
use Rattle.wsym_terms.specs.Trees.{size_of, level_size}
use Rattle.wsym_terms.specs.declared.trees.Tree.{Tree, fold-roll-Tree}
use Rattle.wsym_terms.specs.declared.trees.Tree.TheOpen.{Tree-F}
use Rattle.wsym_terms.specs.declared.trees.Tree.TheVariants.{Seq, Alt}
use Rattle.wsym_terms.specs.declared.trees.Tree.TheVariants as t
use Rattle.tree_law.specs.Ways.{members, through, taken_out, all_taken_out, IsIn}
use Rattle.tree_law.specs.NodeOrders.{sum_over, without, first_least, first_then, order_in, order_of, weight_after}
use Rattle.tree_law.proofs.NodeOrderLemmas.{least_is_in, none_is_least, shorter, in_without}
use Rattle.elimination_plans.specs.PlanSteps.{some}
use Rattle.elimination_plans.specs.Weights.{one_if, Only, value_of, mass}
use Rattle.elimination_plans.proofs.PlanStepLemmas.{ap2}
use Rattle.elimination_plans.proofs.MassLemmas.{mass_rises}

-- ---- sizes

by_size : {A : Type 0} (f : A → ℕ) (xs : List A) → sum_by f xs ≡ sum_over f xs
by_size f [] = refl
by_size f (x ∷ xs) = (let a = sum_by-cons f x xs in let b = by_size f xs in omega (arith, a, b))

pub seq_size : (ts : List Tree) → size_of (Seq ts) ≡ 1 + sum_over size_of ts
seq_size ts = ap size_of (sym (t.rolls-Seq ts)) ∙ fold-roll-Tree ℕ level_size (Tree-F.Seq ts)
    ∙ ap (λ x. 1 + x) (sum-map size_of ts ∙ by_size size_of ts)

alt_size : (ts : List Tree) → size_of (Alt ts) ≡ 1 + sum_over size_of ts
alt_size ts = ap size_of (sym (t.rolls-Alt ts)) ∙ fold-roll-Tree ℕ level_size (Tree-F.Alt ts)
    ∙ ap (λ x. 1 + x) (sum-map size_of ts ∙ by_size size_of ts)

choices_size : (ws : List (List Tree)) → sum_over size_of (map Seq ws) ≡ length ws + value_of size_of ws
choices_size [] = refl
choices_size (w ∷ ws) = (let a = seq_size w in let b = choices_size ws in omega (arith, a, b))

-- the size of the members of an edge, from the number of its ways and what stands in them
pub members_size : (w u : List Tree) (ws : List (List Tree)) → sum_over size_of (members (w ∷ u ∷ ws)) ≡ 1 + length (w ∷ u ∷ ws) + value_of
    size_of (w ∷ u ∷ ws)
members_size w u ws = (let a = alt_size (map Seq (w ∷ u ∷ ws)) in let b = choices_size (w ∷ u ∷ ws) in omega (arith, a, b))

pub sizes_more : (ws : List (List Tree)) → value_of size_of ws ≤ sum_over size_of (members ws)
sizes_more [] = omega arith
sizes_more (w ∷ []) = omega arith
sizes_more (w ∷ u ∷ ws) = (let a = members_size w u ws in omega (arith, a))

-- ---- edges that are kept

pub count_some : (f : ℕ → Bool) (us : List ℕ) (u : ℕ) → IsIn u us → f u ≡ true → 1 ≤ sum_over (λ x. one_if (f x)) us
count_some f [] u i e = absurd i
count_some f (x ∷ xs) u (inl s) e = (let t : one_if (f x) ≡ 1 = ap one_if (ap f (sym s) ∙ e) in omega (arith, t))
count_some f (x ∷ xs) u (inr i) e = (let t = count_some f xs u i e in omega (arith, t))

pub some_more : (a b : List (List Tree)) → some a ≡ true → some (a ++ b) ≡ true
some_more [] b e = absurd (cc)
some_more (x ∷ xs) b e = refl

pub some_through : (a c : List (List Tree)) (x : Tree) (b : List (List Tree)) → some a ≡ true → some b ≡ true
    → some (c ++ through a x b) ≡ true
some_through [] c x b e f = absurd (cc)
some_through (a ∷ into) c x [] e f = absurd (cc)
some_through (a ∷ into) [] x (b ∷ out) e f = refl
some_through (a ∷ into) (y ∷ c) x (b ∷ out) e f = refl

pub through_some : (a : List (List Tree)) (x : Tree) (b : List (List Tree)) → some (through a x b) ≡ true → (some a ≡ true)
    × (some b ≡ true)
through_some [] x b e = absurd (cc)
through_some (a ∷ into) x [] e = absurd (cc)
through_some (a ∷ into) x (b ∷ out) e = (refl, refl)

pub append_some : (a b : List (List Tree)) → some (a ++ b) ≡ true → (some a ≡ true) ⊎ (some b ≡ true)
append_some [] b e = inr e
append_some (x ∷ xs) b e = inl refl

pub apart : (u v : ℕ) → u ≢ v → nat_eq u v ≡ false
apart u v h = grind (arith, nat_tests)

module _ (tree : ℕ → Tree) (s t : ℕ) (rank : ℕ → ℕ) where
  abbrev Between : (ℕ → ℕ → List (List Tree)) → List ℕ → ℕ → Type 0
  Between ways left v = ((p : ℕ) × IsIn p (s ∷ t ∷ left) × (some (ways p v) ≡ true))
      × ((q : ℕ) × IsIn q (s ∷ t ∷ left) × (some (ways v q) ≡ true))

  pub record Linked (ways : ℕ → ℕ → List (List Tree)) (left : List ℕ) : Type 0 where
    pub rises : (p q : ℕ) → some (ways p q) ≡ true → rank p < rank q
    pub kept : (v : ℕ) → IsIn v left → Between ways left v
    pub start : (v : ℕ) → IsIn v left → nat_eq s v ≡ false
    pub end : (v : ℕ) → IsIn v left → nat_eq t v ≡ false
    pub once : (v : ℕ) → IsIn v left → Only v left

  pub in_left : (v u : ℕ) (left : List ℕ) → IsIn u (without v left) → IsIn u left × (u ≢ v)
  in_left v u [] i = absurd i
  in_left v u (w ∷ ws) i = by_test (in_left v u ws) (nat_eq w v) refl i
    where
      by_test : (IsIn u (without v ws) → IsIn u ws × (u ≢ v)) → (b : Bool) → nat_eq w v ≡ b
          → IsIn u (if b then without v ws else w ∷ without v ws) → IsIn u (w ∷ ws) × (u ≢ v)
      by_test ih true e i = (inr (ih i).0, (ih i).1)
      by_test ih false e (inl same) = (inl same, grind (arith, nat_tests))
      by_test ih false e (inr j) = (inr (ih j).0, (ih j).1)

  -- an end or a node that is left, other than v
  pub still_in : (v p : ℕ) (left : List ℕ) → p ≢ v → IsIn p (s ∷ t ∷ left) → IsIn p (s ∷ t ∷ without v left)
  still_in v p left a (inl e) = inl e
  still_in v p left a (inr (inl e)) = inr (inl e)
  still_in v p left a (inr (inr i)) = either (in_without v p left i)
    where
      either : (p ≡ v) ⊎ IsIn p (without v left) → IsIn p (s ∷ t ∷ without v left)
      either (inl e) = absurd (a e)
      either (inr j) = inr (inr j)

  module _ (v : ℕ) (ways : ℕ → ℕ → List (List Tree)) (left : List ℕ) (h : Linked ways left) (here : IsIn v left) where
    pub new_ways : (p q : ℕ) → p ≢ v → q ≢ v → taken_out tree v ways p q ≡ ways p q ++ through (ways p v) (tree v) (ways v q)
    new_ways p q a b = ap2 (λ (x y : Bool). if x || y then [] else ways p q ++ through (ways p v) (tree v) (ways v q)) (apart p v a)
        (apart q v b)

    step_rises : (p q : ℕ) → some (taken_out tree v ways p q) ≡ true → rank p < rank q
    step_rises p q e = by_tests (nat_eq p v || nat_eq q v) e
      where
        by_part : (some (ways p q) ≡ true) ⊎ (some (through (ways p v) (tree v) (ways v q)) ≡ true) → rank p < rank q
        by_part (inl f) = h.rises p q f
        by_part (inr f) = (let g = through_some (ways p v) (tree v) (ways v q) f in let a = h.rises p v g.0 in let b = h.rises v q g.1 in
            omega (arith, a, b))

        by_tests : (b : Bool) → some (if b then [] else ways p q ++ through (ways p v) (tree v) (ways v q)) ≡ true → rank p < rank q
        by_tests true f = absurd (cc)
        by_tests false f = by_part (append_some (ways p q) (through (ways p v) (tree v) (ways v q)) f)

    pub no_loop : (u w : ℕ) → some (ways u w) ≡ true → u ≢ w
    no_loop u w e same = (let r = h.rises u w e in let f : rank u ≡ rank w = ap rank same in absurd (omega (arith, r, f)))

    step_into : (u : ℕ) → u ≢ v → ((p : ℕ) × IsIn p (s ∷ t ∷ left) × (some (ways p u) ≡ true)) → (p : ℕ) × IsIn p (s ∷ t ∷ without v left)
        × (some (taken_out tree v ways p u) ≡ true)
    step_into u a (p, i, e) = by_test (nat_eq p v) refl
      where
        by_test : (b : Bool) → nat_eq p v ≡ b → (p : ℕ) × IsIn p (s ∷ t ∷ without v left) × (some (taken_out tree v ways p u) ≡ true)
        by_test false f =
            let o : p ≢ v = grind (arith, nat_tests) in
            (p, still_in v p left o i, ap some (new_ways p u o a) ∙ some_more (ways p u) (through (ways p v) (tree v) (ways v u)) e)
        by_test true f =
            let same : p ≡ v = grind (arith, nat_tests) in
            let k = (h.kept v here).0 in
            let o : k.0 ≢ v = no_loop k.0 v k.2 in (
              k.0,
              still_in v k.0 left o k.1,
              ap some (new_ways k.0 u o a)
                  ∙ some_through (ways k.0 v) (ways k.0 u) (tree v) (ways v u) k.2 (subst (λ x. some (ways x u) ≡ true) same e),
            )

    step_out : (u : ℕ) → u ≢ v → ((q : ℕ) × IsIn q (s ∷ t ∷ left) × (some (ways u q) ≡ true)) → (q : ℕ) × IsIn q (s ∷ t ∷ without v left)
        × (some (taken_out tree v ways u q) ≡ true)
    step_out u a (q, i, e) = by_test (nat_eq q v) refl
      where
        other : (w : ℕ) → some (ways v w) ≡ true → w ≢ v
        other w f same = no_loop v w f (sym same)

        by_test : (b : Bool) → nat_eq q v ≡ b → (q : ℕ) × IsIn q (s ∷ t ∷ without v left) × (some (taken_out tree v ways u q) ≡ true)
        by_test false f =
            let o : q ≢ v = grind (arith, nat_tests) in
            (q, still_in v q left o i, ap some (new_ways u q a o) ∙ some_more (ways u q) (through (ways u v) (tree v) (ways v q)) e)
        by_test true f =
            let same : q ≡ v = grind (arith, nat_tests) in
            let k = (h.kept v here).1 in
            let o : k.0 ≢ v = other k.0 k.2 in (
              k.0,
              still_in v k.0 left o k.1,
              ap some (new_ways u k.0 a o)
                  ∙ some_through (ways u v) (ways u k.0) (tree v) (ways v k.0) (subst (λ x. some (ways u x) ≡ true) same e) k.2,
            )

    only_left : (u : ℕ) (us : List ℕ) → u ≢ v → Only u us → Only u (without v us)
    only_left u [] a o = absurd o
    only_left u (w ∷ ws) a o = by_test (only_left u ws a) (nat_eq w v) refl o
      where
        fewer : (us : List ℕ) → AllByRecursion (λ x. nat_eq x u ≡ false) us → AllByRecursion (λ x. nat_eq x u ≡ false) (without v us)
        fewer [] all = tt
        fewer (x ∷ xs) all = one (nat_eq x v) (fewer xs all.1)
          where
            one : (b : Bool) → AllByRecursion (λ x. nat_eq x u ≡ false) (without v xs)
                → AllByRecursion (λ x. nat_eq x u ≡ false) (if b then without v xs else x ∷ without v xs)
            one true rest = rest
            one false rest = (all.0, rest)

        by_test : (Only u ws → Only u (without v ws)) → (b : Bool) → nat_eq w v ≡ b → Only u (w ∷ ws)
            → Only u (if b then without v ws else w ∷ without v ws)
        by_test ih true e (inl k) = absurd (let f = k.0 in let g : u ≡ v = grind (arith, nat_tests) in a g)
        by_test ih true e (inr k) = ih k.1
        by_test ih false e (inl k) = inl (k.0, fewer ws k.1)
        by_test ih false e (inr k) = inr (k.0, ih k.1)

    pub step_linked : Linked (taken_out tree v ways) (without v left)
    step_linked = record {
      rises = step_rises;
      kept = λ u i. (let j = in_left v u left i in (step_into u j.1 (h.kept u j.0).0, step_out u j.1 (h.kept u j.0).1));
      start = λ u i. h.start u (in_left v u left i).0;
      end = λ u i. h.end u (in_left v u left i).0;
      once = λ u i. (let j = in_left v u left i in only_left u left j.1 (h.once u j.0));
    }

    pub none_own : ways v v ≡ []
    none_own = by_ways (ways v v) refl
      where
        by_ways : (ws : List (List Tree)) → ways v v ≡ ws → ways v v ≡ []
        by_ways [] e = e
        by_ways (w ∷ ws) e = (let r = h.rises v v (ap some e) in absurd (omega (arith, r)))

    pub step_mass : mass size_of tree s t ways left ≤ mass size_of tree s t (taken_out tree v ways) (without v left)
    step_mass =
        let k = h.kept v here in
        let p = k.0.0 in
        let q = k.1.0 in
        mass_rises size_of sizes_more tree ways v s t left (h.start v here) (h.end v here) (h.once v here) none_own
        (count_some (λ x. some (ways x v)) (s ∷ t ∷ without v left) p (still_in v p left (no_loop p v k.0.2) k.0.1) k.0.2)
        (count_some (λ x. some (ways v x)) (s ∷ t ∷ without v left) q (still_in v q left (λ e. no_loop v q k.1.2 (sym e)) k.1.1) k.1.2)

  -- at the end there are no more nodes, and no less stands in the ways
  pub order_mass : (n : ℕ) (ways : ℕ → ℕ → List (List Tree)) (left : List ℕ) → length left ≤ n → Linked ways left
      → (mass size_of tree s t ways left ≤ mass size_of tree s t (all_taken_out tree (order_in tree s t n ways left) ways) [])
      × Linked (all_taken_out tree (order_in tree s t n ways left) ways) []
  order_mass zero ways [] h k = (omega arith, k)
  order_mass zero ways (v ∷ vs) h k = absurd (omega (arith, h))
  order_mass (suc n) ways [] h k = (omega arith, k)
  order_mass (suc n) ways (v ∷ vs) h k = by_first (λ w. order_mass n (taken_out tree w ways) (without w (v ∷ vs)))
      (first_least (weight_after tree s t ways (v ∷ vs)) (v ∷ vs)) refl
    where
      left : List ℕ
      left = v ∷ vs

      Says : List ℕ → Type 0
      Says l = (mass size_of tree s t ways left ≤ mass size_of tree s t (all_taken_out tree l ways) [])
          × Linked (all_taken_out tree l ways) []

      by_first : ((w : ℕ) → length (without w left) ≤ n → Linked (taken_out tree w ways) (without w left)
          → (mass size_of tree s t (taken_out tree w ways) (without w left) ≤ mass size_of tree s t
          (all_taken_out tree (order_in tree s t n (taken_out tree w ways) (without w left)) (taken_out tree w ways)) [])
          × Linked (all_taken_out tree (order_in tree s t n (taken_out tree w ways) (without w left)) (taken_out tree w ways)) [])
          → (o : Option ℕ) → first_least (weight_after tree s t ways left) left ≡ o
          → (mass size_of tree s t ways left ≤ mass size_of tree s t (all_taken_out tree
          (first_then (λ w. order_in tree s t n (taken_out tree w ways) (without w left)) o) ways) [])
          × Linked (all_taken_out tree (first_then (λ w. order_in tree s t n (taken_out tree w ways) (without w left)) o) ways) []
      by_first ih None e = absurd (none_is_least (weight_after tree s t ways left) v vs e)
      by_first ih (Some w) e =
          let i = least_is_in (weight_after tree s t ways left) left w e in
          let l = shorter w left i in
          let r = ih w (omega (arith, h, l)) (step_linked w ways left k i) in
          let m = step_mass w ways left k i in
          let r0 = r.0 in
          (omega (arith, m, r0), r.1)

  -- so what stands in the ways at any time stands in the tree between the ends
  pub mass_stands : (ways : ℕ → ℕ → List (List Tree)) (left : List ℕ) → rank s < rank t → Linked ways left
      → mass size_of tree s t ways left ≤ sum_over size_of (members (all_taken_out tree (order_of tree s t ways left) ways s t))
  mass_stands ways left up h =
      let r = order_mass (length left) ways left (omega arith) h in
      let W : ℕ → ℕ → List (List Tree) = all_taken_out tree (order_of tree s t ways left) ways in
      let less = r.0 in
      let ss = empty (W s s) (λ e. (let a = r.1.rises s s e in omega (arith, a))) in
      let tt_ = empty (W t t) (λ e. (let a = r.1.rises t t e in omega (arith, a))) in
      let ts = empty (W t s) (λ e. (let a = r.1.rises t s e in omega (arith, a, up))) in
      let st = sizes_more (W s t) in
      omega (arith, less, ss, tt_, ts, st)
    where
      empty : (ws : List (List Tree)) → (some ws ≡ true → ⊥) → value_of size_of ws ≡ 0
      empty [] h = refl
      empty (w ∷ ws) h = absurd (h refl)
