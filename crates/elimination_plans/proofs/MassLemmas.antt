-- What stands in the ways of a level never gets less where each node that is left keeps an edge into it and one out of it.
use Rattle.std.proofs.Common.{◌≡◌, ℕ, zero, suc, ◌+◌, ◌*◌, ◌≤◌, inr, Bool, true, false, if◌then◌else◌, ◌||◌, nat_eq, List, [], ◌∷◌, ◌++◌}
use Rattle.std.proofs.Common.{refl, ap, subst, ◌∙◌, arith}
use Rattle.std.specs.Prelude.{◌&&◌}
use Rattle.std.specs.List.{AllByRecursion}
use Rattle.wsym_terms.specs.declared.trees.Tree.{Tree}
use Rattle.tree_law.specs.Ways.{members, through, taken_out}
use Rattle.tree_law.specs.NodeOrders.{sum_over, over_pairs, without}
use Rattle.elimination_plans.specs.PlanSteps.{some}
use Rattle.elimination_plans.specs.Weights.{Only, into_count, out_count, value_of, mass}
use Rattle.elimination_plans.proofs.PlanStepLemmas.{ap2}
use Rattle.elimination_plans.proofs.WeightLemmas.{sum_append, sum_same, sum_two, sum_out, pairs_out, others, every, row_sum, rows_sum}

sum_less : (f g : ℕ → ℕ) (xs : List ℕ) → AllByRecursion (λ x. f x ≤ g x) xs → sum_over f xs ≤ sum_over g xs
sum_less f g [] all = omega arith
sum_less f g (x ∷ xs) all = (let a = all.0 in let b = sum_less f g xs all.1 in omega (arith, a, b))

pub at_least : (o A : ℕ) → 1 ≤ o → A ≤ o * A
at_least zero A h = absurd (omega (arith, h))
at_least (suc o) A h = (let m : suc o * A ≡ A + o * A = grind arith in omega (arith, m))

module _ (μ : Tree → ℕ) (more : (ws : List (List Tree)) → value_of μ ws ≤ sum_over μ (members ws)) (tree : ℕ → Tree)
    (ways : ℕ → ℕ → List (List Tree)) (v : ℕ) where
  abbrev L : ℕ → ℕ → ℕ
  L p q = value_of μ (ways p q)

  abbrev n : ℕ
  n = μ (tree v)

  abbrev value_through : List (List Tree) → List (List Tree) → ℕ
  value_through a b = if some a && some b then value_of μ a + n + value_of μ b else 0

  through_more : (a b : List (List Tree)) → value_through a b ≤ value_of μ (through a (tree v) b)
  through_more [] b = omega arith
  through_more (a ∷ into) [] = omega arith
  through_more (a ∷ into) (b ∷ out) =
      let f : value_of μ (a ∷ into) ≤ sum_over μ (members (a ∷ into)) = more (a ∷ into) in
      let g : value_of μ (b ∷ out) ≤ sum_over μ (members (b ∷ out)) = more (b ∷ out) in
      let h : sum_over μ (members (a ∷ into) ++ tree v ∷ members (b ∷ out)) ≡ sum_over μ (members (a ∷ into)) + sum_over μ
      (tree v ∷ members (b ∷ out)) = sum_append μ (members (a ∷ into)) (tree v ∷ members (b ∷ out)) in
      omega (arith, f, g, h)

  no_value : (ws : List (List Tree)) → some ws ≡ false → value_of μ ws ≡ 0
  no_value [] e = refl
  no_value (w ∷ ws) e = absurd (cc)

  pub new_values : (us : List ℕ) → over_pairs (λ p q. value_through (ways p v) (ways v q)) us ≡ out_count ways v us * sum_over (λ p. L p v)
      us + into_count ways v us * (out_count ways v us * n + sum_over (L v) us)
  new_values us =
      sum_same (λ p. sum_over (λ q. value_through (ways p v) (ways v q)) us) (λ p. if some (ways p v) then o * (L p v + n) + B else 0) us
      (every _ us row)
      ∙ rows_sum (λ p. some (ways p v)) (λ p. L p v) (λ p e. no_value (ways p v) e) o n B us
    where
      o : ℕ
      o = out_count ways v us

      B : ℕ
      B = sum_over (L v) us

      nothing : (qs : List ℕ) → sum_over (λ (q : ℕ). 0) qs ≡ 0
      nothing [] = refl
      nothing (q ∷ qs) = (let r = nothing qs in omega (arith, r))

      by_test : (b : Bool) (p : ℕ) → sum_over (λ q. if b && some (ways v q) then L p v + n + L v q else 0) us ≡
          (if b then o * (L p v + n) + B else 0)
      by_test true p = row_sum (L p v + n) (λ q. some (ways v q)) (L v) (λ q e. no_value (ways v q) e) us
      by_test false p = nothing us

      row : (p : ℕ) → sum_over (λ q. value_through (ways p v) (ways v q)) us ≡ (if some (ways p v) then o * (L p v + n) + B else 0)
      row p = by_test (some (ways p v)) p

  ways_more : (p q : ℕ) → nat_eq p v ≡ false → nat_eq q v ≡ false → L p q + value_through (ways p v) (ways v q) ≤ value_of μ
      (taken_out tree v ways p q)
  ways_more p q a b =
      let e : value_of μ (taken_out tree v ways p q) ≡ L p q + value_of μ (through (ways p v) (tree v) (ways v q))
      = ap2 (λ (x y : Bool). value_of μ (if x || y then [] else ways p q ++ through (ways p v) (tree v) (ways v q))) a b
      ∙ sum_append (sum_over μ) (ways p q) (through (ways p v) (tree v) (ways v q)) in
      let m = through_more (ways p v) (ways v q) in
      omega (arith, e, m)

  pub left_more : (us : List ℕ) → AllByRecursion (λ u. nat_eq u v ≡ false) us
      → over_pairs L us + over_pairs (λ p q. value_through (ways p v) (ways v q)) us ≤ over_pairs
      (λ p q. value_of μ (taken_out tree v ways p q)) us
  left_more us all =
      let less = sum_less (λ p. sum_over (L p) us + sum_over (λ q. value_through (ways p v) (ways v q)) us)
      (λ p. sum_over (λ q. value_of μ (taken_out tree v ways p q)) us) us (rows us all) in
      let two = sum_two (λ p. sum_over (L p) us) (λ p. sum_over (λ q. value_through (ways p v) (ways v q)) us) us in
      omega (arith, less, two)
    where
      cells : (p : ℕ) → nat_eq p v ≡ false → (qs : List ℕ) → AllByRecursion (λ u. nat_eq u v ≡ false) qs
          → AllByRecursion (λ q. L p q + value_through (ways p v) (ways v q) ≤ value_of μ (taken_out tree v ways p q)) qs
      cells p a [] all = tt
      cells p a (q ∷ qs) all = (ways_more p q a all.0, cells p a qs all.1)

      rows : (ps : List ℕ) → AllByRecursion (λ u. nat_eq u v ≡ false) ps
          → AllByRecursion (λ p. sum_over (L p) us + sum_over (λ q. value_through (ways p v) (ways v q)) us ≤ sum_over
          (λ q. value_of μ (taken_out tree v ways p q)) us) ps
      rows [] each = tt
      rows (p ∷ ps) each = (one, rows ps each.1)
        where
          one : sum_over (L p) us + sum_over (λ q. value_through (ways p v) (ways v q)) us ≤ sum_over
              (λ q. value_of μ (taken_out tree v ways p q)) us
          one =
              let less = sum_less (λ q. L p q + value_through (ways p v) (ways v q)) (λ q. value_of μ (taken_out tree v ways p q)) us
              (cells p each.0 us all) in
              let two = sum_two (L p) (λ q. value_through (ways p v) (ways v q)) us in
              omega (arith, less, two)

  pub mass_rises : (s t : ℕ) (left : List ℕ) → nat_eq s v ≡ false → nat_eq t v ≡ false → Only v left → ways v v ≡ []
      → 1 ≤ into_count ways v (s ∷ t ∷ without v left) → 1 ≤ out_count ways v (s ∷ t ∷ without v left)
      → mass μ tree s t ways left ≤ mass μ tree s t (taken_out tree v ways) (without v left)
  mass_rises s t left a b only none hi ho =
      let us : List ℕ = s ∷ t ∷ without v left in
      let same : without v (s ∷ t ∷ left) ≡ s ∷ t ∷ without v left = ap2
      (λ (x y : Bool). if x then (if y then without v left else t ∷ without v left) else s ∷
      (if y then without v left else t ∷ without v left)) a b in
      let out : over_pairs L (s ∷ t ∷ left) ≡ L v v + sum_over (L v) (s ∷ t ∷ without v left) +
      (sum_over (λ p. L p v) (s ∷ t ∷ without v left) + over_pairs L (s ∷ t ∷ without v left))
      = subst (λ l. over_pairs L (s ∷ t ∷ left) ≡ L v v + sum_over (L v) l + (sum_over (λ p. L p v) l + over_pairs L l)) same
      (pairs_out L v (s ∷ t ∷ left) (inr (a, inr (b, only)))) in
      let own : L v v ≡ 0 = ap (value_of μ) none in
      let trees : sum_over (λ u. μ (tree u)) left ≡ n + sum_over (λ u. μ (tree u)) (without v left) = sum_out (λ u. μ (tree u)) v left only
      in
      let new = left_more (s ∷ t ∷ without v left) (a, (b, others v left)) in
      let made = new_values (s ∷ t ∷ without v left) in
      let A = at_least (out_count ways v (s ∷ t ∷ without v left)) (sum_over (λ p. L p v) (s ∷ t ∷ without v left)) ho in
      let N = at_least (out_count ways v (s ∷ t ∷ without v left)) n ho in
      let B = at_least (into_count ways v (s ∷ t ∷ without v left)) (out_count ways v (s ∷ t ∷ without v left) * n + sum_over (L v)
      (s ∷ t ∷ without v left)) hi in
      omega (arith, out, own, trees, new, made, A, N, B)
