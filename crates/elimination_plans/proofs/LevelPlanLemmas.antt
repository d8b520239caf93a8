-- The ways of a plan between two ends are the definition's, and so its members are the tree between them.
use Rattle.std.proofs.Common.{◌≡◌, ℕ, zero, suc, inl, inr, Bool, true, false, if◌then◌else◌, ◌||◌, nat_eq, List, [], ◌∷◌, ◌++◌, length}
use Rattle.std.proofs.Common.{refl, sym, ap, subst, ◌∙◌}
use Rattle.std.specs.Prelude.{Option, Some, None}
use Rattle.std.specs.List.{AllByRecursion}
use Rattle.wsym_terms.specs.declared.trees.Tree.{Tree}
use Rattle.tree_law.specs.Ways.{members, through, taken_out, all_taken_out, edge_ways, IsIn}
use Rattle.tree_law.specs.NodeOrders.{without, first_least, first_then, order_in, weight_after}
use Rattle.tree_law.specs.Levels.{Level, taking, between}
use Rattle.tree_law.proofs.NodeOrderLemmas.{least_is_in, all_of_order}
use Rattle.elimination_plans.specs.Plans.{Unrolls, Falls}
use Rattle.elimination_plans.specs.PlanSteps.{and_gone, ways_step, ways_after, plan_after, edge_plan, Fresh, Stands}
use Rattle.elimination_plans.proofs.PlanStepLemmas.{ap2, all_planned, start_planned}

or_false : (b c : Bool) → (b || c) ≡ false → (b ≡ false) × (c ≡ false)
or_false true c e = absurd (cc)
or_false false c e = (refl, e)

abbrev Same : (ℕ → Bool) → (ℕ → ℕ → List (List Tree)) → (ℕ → ℕ → List (List Tree)) → Type 0
Same gone W ways = (p q : ℕ) → gone p ≡ false → gone q ≡ false → W p q ≡ ways p q

module _ (tree : ℕ → Tree) where
  step_same : (gone : ℕ → Bool) (v : ℕ) (W ways : ℕ → ℕ → List (List Tree)) → gone v ≡ false → Same gone W ways
      → Same (and_gone v gone) (ways_step tree gone v W) (taken_out tree v ways)
  step_same gone v W ways g h p q a b =
      ap2 (λ (x y : Bool). if x || y then W p q else W p q ++ through (W p v) (tree v) (W v q)) a b
      ∙ ap2 (λ (x y : List (List Tree)). x ++ through y (tree v) (W v q)) (h p q pa.1 qa.1) (h p v pa.1 g)
      ∙ ap (λ (y : List (List Tree)). ways p q ++ through (ways p v) (tree v) y) (h v q g qa.1)
      ∙ sym (ap2 (λ (x y : Bool). if x || y then [] else ways p q ++ through (ways p v) (tree v) (ways v q)) pa.0 qa.0)
    where
      pa : (nat_eq p v ≡ false) × (gone p ≡ false)
      pa = or_false (nat_eq p v) (gone p) a

      qa : (nat_eq q v ≡ false) × (gone q ≡ false)
      qa = or_false (nat_eq q v) (gone q) b

  -- the ways that are left between ends that are never taken out
  pub ways_same : (vs : List ℕ) (gone : ℕ → Bool) (W ways : ℕ → ℕ → List (List Tree)) → Fresh gone vs → Same gone W ways → (s t : ℕ)
      → gone s ≡ false → gone t ≡ false
      → AllByRecursion (λ v. nat_eq s v ≡ false) vs → AllByRecursion (λ v. nat_eq t v ≡ false) vs
      → ways_after tree vs gone W s t ≡ all_taken_out tree vs ways s t
  ways_same [] gone W ways f h s t a b c d = h s t a b
  ways_same (v ∷ vs) gone W ways f h s t a b c d =
      ways_same vs (and_gone v gone) (ways_step tree gone v W) (taken_out tree v ways) f.1 (step_same gone v W ways f.0 h) s t
      (ap2 (λ (x y : Bool). x || y) c.0 a) (ap2 (λ (x y : Bool). x || y) d.0 b) c.1 d.1

without_fresh : (v : ℕ) (gone : ℕ → Bool) (us : List ℕ) → AllByRecursion (λ u. gone u ≡ false) us
    → AllByRecursion (λ u. and_gone v gone u ≡ false) (without v us)
without_fresh v gone [] all = tt
without_fresh v gone (u ∷ us) all = by_test (without_fresh v gone us all.1) (nat_eq u v) refl
  where
    by_test : AllByRecursion (λ u. and_gone v gone u ≡ false) (without v us) → (b : Bool) → nat_eq u v ≡ b
        → AllByRecursion (λ u. and_gone v gone u ≡ false) (if b then without v us else u ∷ without v us)
    by_test rest true e = rest
    by_test rest false e = (ap2 (λ (x y : Bool). x || y) e all.0, rest)

at : (P : ℕ → Type 0) (v : ℕ) (us : List ℕ) → AllByRecursion P us → IsIn v us → P v
at P v [] all i = absurd i
at P v (u ∷ us) all (inl e) = subst P (sym e) all.0
at P v (u ∷ us) all (inr i) = at P v us all.1 i

module _ (tree : ℕ → Tree) (s t : ℕ) where
  pub order_fresh : (n : ℕ) (ways : ℕ → ℕ → List (List Tree)) (left : List ℕ) (gone : ℕ → Bool) → AllByRecursion (λ u. gone u ≡ false) left
      → Fresh gone (order_in tree s t n ways left)
  order_fresh zero ways left gone all = tt
  order_fresh (suc n) ways left gone all =
      by_first (λ v. order_fresh n (taken_out tree v ways) (without v left) (and_gone v gone) (without_fresh v gone left all))
      (first_least (weight_after tree s t ways left) left) refl
    where
      by_first : ((v : ℕ) → Fresh (and_gone v gone) (order_in tree s t n (taken_out tree v ways) (without v left))) → (o : Option ℕ)
          → first_least (weight_after tree s t ways left) left ≡ o
          → Fresh gone (first_then (λ v. order_in tree s t n (taken_out tree v ways) (without v left)) o)
      by_first ih None e = tt
      by_first ih (Some v) e = (at (λ u. gone u ≡ false) v left all (least_is_in (weight_after tree s t ways left) left v e), ih v)

pub every : (left : List ℕ) → AllByRecursion (λ (u : ℕ). false ≡ false) left
every [] = tt
every (u ∷ us) = (refl, every us)

-- the ways of the whole plan of a level, and the tree between its ends
abbrev pub level_ways : (ℕ → Tree) → Level → ℕ → ℕ → ℕ → ℕ → List (List Tree)
level_ways tree l s t = ways_after tree (taking tree l s t) (λ p. false) (edge_ways (l.useful t))

abbrev pub level_plan : (ℕ → Tree) → Level → ℕ → ℕ → ℕ → ℕ → List ℕ
level_plan tree l s t = plan_after (taking tree l s t) (λ p. false) 0 (edge_plan (l.useful t))

pub plan_is_between : (tree : ℕ → Tree) (l : Level) (s t : ℕ) → AllByRecursion (λ v. nat_eq s v ≡ false) (l.nodes t)
    → AllByRecursion (λ v. nat_eq t v ≡ false) (l.nodes t) → members (level_ways tree l s t s t) ≡ between tree l s t
plan_is_between tree l s t a b =
    ap members
    (ways_same tree (taking tree l s t) (λ p. false) (edge_ways (l.useful t)) (edge_ways (l.useful t))
    (order_fresh tree s t (length (l.nodes t)) (edge_ways (l.useful t)) (l.nodes t) (λ p. false) (every (l.nodes t))) (λ p q c d. refl)
    s t refl refl
    (all_of_order tree s t (λ v. nat_eq s v ≡ false) (edge_ways (l.useful t)) (l.nodes t) a)
    (all_of_order tree s t (λ v. nat_eq t v ≡ false) (edge_ways (l.useful t)) (l.nodes t) b))

pub plan_unrolls : (tree : ℕ → Tree) (l : Level) (s t : ℕ) (node : ℕ → ℕ) → Stands node 0 (taking tree l s t)
    → Unrolls tree node (level_plan tree l s t) (level_ways tree l s t) × Falls node (level_plan tree l s t)
plan_unrolls tree l s t node stands = all_planned tree node (taking tree l s t) (λ p. false) 0 (edge_plan (l.useful t))
    (edge_ways (l.useful t)) (start_planned tree node (l.useful t)) stands
