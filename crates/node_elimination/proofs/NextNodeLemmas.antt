-- The node that the gains choose is the one that comes next, and a level past the limit has a tree past it.
use Rattle.std.proofs.Common.{◌≡◌, ℕ, ◌+◌, ◌*◌, ◌<◌, ◌≤◌, inl, inr, Bool, true, false, ◌||◌, nat_eq, List, [], ◌∷◌, refl, sym, ap, subst}
use Rattle.std.proofs.Common.{◌∙◌, arith}
use Rattle.std.specs.Prelude.{Option, Some}
use Rattle.std.specs.List.{AllByRecursion}
use Rattle.std.proofs.lemmas.Bool.Decides.{nat_tests}
use Rattle.std.proofs.Math.Nat.{mul-add}
use Rattle.wsym_terms.specs.Trees.{size_of}
use Rattle.wsym_terms.specs.declared.trees.Tree.{Tree}
use Rattle.tree_law.specs.Ways.{taken_out, IsIn}
use Rattle.tree_law.specs.NodeOrders.{leaves_of, leaves_of_ways, sum_over, over_pairs, without, weight, weight_after, first_least}
use Rattle.elimination_plans.specs.AddedWays.{has}
use Rattle.elimination_plans.specs.PlanSteps.{some}
use Rattle.elimination_plans.specs.Stages.{Task, Stage, next_stage, ways_at, IsLarge}
use Rattle.elimination_plans.specs.Weights.{one_if, into_count, out_count, into_leaves, out_leaves, gain, value_of, mass}
use Rattle.elimination_plans.proofs.PlanStepLemmas.{ap2}
use Rattle.elimination_plans.proofs.WeightLemmas.{sum_same, sum_out, every, others}
use Rattle.elimination_plans.proofs.LeastNodeLemmas.{same_least, least_found, weight_is}
use Rattle.elimination_plans.proofs.LinkedLevelLemmas.{count_some, none_own, no_loop, still_in, sizes_more}
use Rattle.elimination_plans.proofs.MassLemmas.{left_more, new_values}
use Rattle.elimination_plans.proofs.LimitLemmas.{stage_large}
use Rattle.node_elimination.specs.declared.cells.Cell.{Cell}
use Rattle.node_elimination.specs.declared.table.Table.{Table}
use Rattle.node_elimination.specs.declared.taking.Elimination.{Elimination}
use Rattle.node_elimination.specs.Cells.{cell_of, one, leaves_in, size_in}
use Rattle.node_elimination.specs.Tables.{sums_at, leaves_at, gain_at, Before, Keeps}
use Rattle.node_elimination.specs.LevelStates.{Holds, all_of, cells_at, gone}
use Rattle.node_elimination.proofs.ReachedStageLemmas.{Ready}
use Rattle.node_elimination.proofs.CellStepLemmas.{one_is, leaves_is, value_is}

pub has_in : (u : ℕ) (us : List ℕ) → has u us ≡ true → IsIn u us
has_in u [] e = absurd (cc)
has_in u (x ∷ xs) e = by_test (nat_eq u x) refl (has_in u xs) e
  where
    by_test : (b : Bool) → nat_eq u x ≡ b → (has u xs ≡ true → IsIn u xs) → (b || has u xs) ≡ true → IsIn u (x ∷ xs)
    by_test true f ih e = inl (grind (arith, nat_tests))
    by_test false f ih e = inr (ih e)

pub in_has : (u : ℕ) (us : List ℕ) → IsIn u us → has u us ≡ true
in_has u [] i = absurd i
in_has u (x ∷ xs) (inl e) = (let t : nat_eq u x ≡ true = grind (arith, nat_tests) in ap (λ (b : Bool). b || has u xs) t)
in_has u (x ∷ xs) (inr i) = ap (λ (b : Bool). nat_eq u x || b) (in_has u xs i) ∙ or_true (nat_eq u x)
  where
    or_true : (b : Bool) → (b || true) ≡ true
    or_true true = refl
    or_true false = refl

pub all_in : (P : ℕ → Type 0) (us : List ℕ) → ((u : ℕ) → IsIn u us → P u) → AllByRecursion P us
all_in P [] h = tt
all_in P (u ∷ us) h = (h u (inl refl), all_in P us (λ v i. h v (inr i)))

module _ (k : Task) (rank : ℕ → ℕ) (s : Stage) (h : Ready k rank s) where
  abbrev W : ℕ → ℕ → List (List Tree)
  W = ways_at k s

  abbrev us : ℕ → List ℕ
  us u = k.from ∷ k.to ∷ without u s.left

  pub own : (u : ℕ) → IsIn u s.left → W u u ≡ []
  own u i = none_own k.tree k.from k.to rank u W s.left h.linked i

  -- a sum over all, of what is nothing where a node is gone, is one over the other nodes
  over_others : (f g : ℕ → ℕ) (u : ℕ) → IsIn u s.left → ((p : ℕ) → g p ≡ f p) → ((p : ℕ) → gone s p ≡ true → f p ≡ 0) → f u ≡ 0
      → sum_over g (all_of k) ≡ sum_over f (us u)
  over_others f g u i same z none =
      let a : sum_over g (all_of k) ≡ sum_over f (all_of k) = sum_same g f (all_of k) (every (λ p. g p ≡ f p) (all_of k) same) in
      let b : sum_over f (all_of k) ≡ sum_over f (k.from ∷ k.to ∷ s.left) = h.sum f z in
      let o : sum_over f s.left ≡ f u + sum_over f (without u s.left) = sum_out f u s.left (h.linked.once u i) in
      omega (arith, a, b, o, none)

  column_is : (g : Option Cell → ℕ) (f : List (List Tree) → ℕ) → ((ws : List (List Tree)) → g (cell_of ws) ≡ f ws) → f [] ≡ 0 → (u : ℕ)
      → IsIn u s.left → sum_over (λ p. g (cells_at k s p u)) (all_of k) ≡ sum_over (λ p. f (W p u)) (us u)
  column_is g f same zero_ u i = over_others (λ p. f (W p u)) (λ p. g (cells_at k s p u)) u i (λ p. same (W p u))
      (λ p e. ap f (h.empty p u e).1 ∙ zero_) (ap f (own u i) ∙ zero_)

  row_is : (g : Option Cell → ℕ) (f : List (List Tree) → ℕ) → ((ws : List (List Tree)) → g (cell_of ws) ≡ f ws) → f [] ≡ 0 → (u : ℕ)
      → IsIn u s.left → sum_over (λ q. g (cells_at k s u q)) (all_of k) ≡ sum_over (λ q. f (W u q)) (us u)
  row_is g f same zero_ u i = over_others (λ q. f (W u q)) (λ q. g (cells_at k s u q)) u i (λ q. same (W u q))
      (λ q e. ap f (h.empty q u e).0 ∙ zero_) (ap f (own u i) ∙ zero_)

  module _ (e : Elimination) (held : Holds k s e) where
    pub ins_are : (u : ℕ) → IsIn u s.left → (sums_at e.table.tally.sums.items u).ins ≡ into_count W u (us u)
    ins_are u i = held.table.ins u ∙ column_is one (λ ws. one_if (some ws)) one_is refl u i

    pub outs_are : (u : ℕ) → IsIn u s.left → (sums_at e.table.tally.sums.items u).outs ≡ out_count W u (us u)
    outs_are u i = held.table.outs u ∙ row_is one (λ ws. one_if (some ws)) one_is refl u i

    gain_is : (u : ℕ) → IsIn u s.left → gain_at e.table.tally u ≡ gain (into_count W u (us u)) (out_count W u (us u))
        (into_leaves W u (us u)) (out_leaves W u (us u)) (leaves_of (k.tree u))
    gain_is u i =
        ap2 (λ (a b : ℕ). gain a b (sums_at e.table.tally.sums.items u).into (sums_at e.table.tally.sums.items u).out
        (leaves_at e.table.tally.leaves.items u)) (ins_are u i) (outs_are u i)
        ∙ ap2 (λ (a b : ℕ). gain (into_count W u (us u)) (out_count W u (us u)) a b (leaves_at e.table.tally.leaves.items u))
        (held.table.into u ∙ column_is leaves_in leaves_of_ways leaves_is refl u i)
        (held.table.out u ∙ row_is leaves_in leaves_of_ways leaves_is refl u i)
        ∙ ap (gain (into_count W u (us u)) (out_count W u (us u)) (into_leaves W u (us u)) (out_leaves W u (us u)))
        (held.nodes.leaves u (h.left_in u i))

    pub some_in : (u : ℕ) → IsIn u s.left → 1 ≤ into_count W u (us u)
    some_in u i =
        let b = (h.linked.kept u i).0 in
        count_some (λ p. some (W p u)) (us u) b.0 (still_in k.tree k.from k.to rank u b.0 s.left
        (no_loop k.tree k.from k.to rank u W s.left h.linked i b.0 u b.2) b.1) b.2

    pub some_out : (u : ℕ) → IsIn u s.left → 1 ≤ out_count W u (us u)
    some_out u i =
        let b = (h.linked.kept u i).1 in
        count_some (λ q. some (W u q)) (us u) b.0 (still_in k.tree k.from k.to rank u b.0 s.left
        (λ same. no_loop k.tree k.from k.to rank u W s.left h.linked i u b.0 b.2 (sym same)) b.1) b.2

    weighs : (u : ℕ) → IsIn u s.left → weight_after k.tree k.from k.to W s.left u ≡ weight k.tree k.from k.to W s.left + gain_at
        e.table.tally u
    weighs u i =
        weight_is k.tree W k.from k.to u s.left (h.linked.start u i) (h.linked.end u i) (h.linked.once u i) (own u i) (some_in u i)
        (some_out u i)
        ∙ ap (λ (g : ℕ). weight k.tree k.from k.to W s.left + g) (sym (gain_is u i))

    pub chosen : (v : ℕ) → has v s.left ≡ true → ((u : ℕ) → has u s.left ≡ true → Before e.table.tally v u)
        → first_least (weight_after k.tree k.from k.to W s.left) s.left ≡ Some v
    chosen v here low =
        same_least (weight_after k.tree k.from k.to W s.left) (gain_at e.table.tally) (weight k.tree k.from k.to W s.left) s.left
        (all_in (λ u. weight_after k.tree k.from k.to W s.left u ≡ weight k.tree k.from k.to W s.left + gain_at e.table.tally u) s.left
        weighs)
        ∙ least_found (gain_at e.table.tally) s.left v h.rising (has_in v s.left here) (λ u i. low u (in_has u s.left i))

  -- the total is what stands in the ways
  pub total_is : (t : Table) → Keeps (all_of k) (cells_at k s) t → t.total ≡ over_pairs (λ p q. value_of size_of (W p q))
      (k.from ∷ k.to ∷ s.left)
  total_is t held =
      held.total
      ∙ sum_same (λ p. sum_over (λ q. size_in (cells_at k s p q)) (all_of k))
      (λ p. sum_over (λ q. value_of size_of (W p q)) (k.from ∷ k.to ∷ s.left)) (all_of k)
      (every (λ p. sum_over (λ q. size_in (cells_at k s p q)) (all_of k) ≡ sum_over (λ q. value_of size_of (W p q))
      (k.from ∷ k.to ∷ s.left)) (all_of k) row)
      ∙ h.sum (λ p. sum_over (λ q. value_of size_of (W p q)) (k.from ∷ k.to ∷ s.left)) (λ p e. zeros p e (k.from ∷ k.to ∷ s.left))
    where
      row : (p : ℕ) → sum_over (λ q. size_in (cells_at k s p q)) (all_of k) ≡ sum_over (λ q. value_of size_of (W p q))
          (k.from ∷ k.to ∷ s.left)
      row p =
          sum_same (λ q. size_in (cells_at k s p q)) (λ q. value_of size_of (W p q)) (all_of k)
          (every (λ q. size_in (cells_at k s p q) ≡ value_of size_of (W p q)) (all_of k) (λ q. value_is (W p q)))
          ∙ h.sum (λ q. value_of size_of (W p q)) (λ q e. ap (value_of size_of) (h.empty q p e).0)

      zeros : (p : ℕ) → gone s p ≡ true → (qs : List ℕ) → sum_over (λ q. value_of size_of (W p q)) qs ≡ 0
      zeros p e [] = refl
      zeros p e (q ∷ qs) = (let a : value_of size_of (W p q) ≡ 0 = ap (value_of size_of) (h.empty p q e).1 in let r = zeros p e qs in
          omega (arith, a, r))

  pub large_total : (t : Table) → Keeps (all_of k) (cells_at k s) t → rank k.from < rank k.to → 500000 < t.total → IsLarge 500000 k
  large_total t held up past =
      let e = total_is t held in
      let more : 500000 < mass size_of k.tree k.from k.to W s.left = omega (arith, e, past) in
      stage_large 500000 rank k s h.way up h.linked more

  -- the new ways alone are past the limit
  pub large_step : (v : ℕ) → IsIn v s.left → Ready k rank (next_stage v s) → ways_at k (next_stage v s) ≡ taken_out k.tree v W
      → rank k.from < rank k.to
      → 500000 < into_count W v (us v) * (out_count W v (us v) * size_of (k.tree v)) → IsLarge 500000 k
  large_step v i next is up past =
      let U : List ℕ = k.from ∷ k.to ∷ without v s.left in
      let o : ℕ = out_count W v (us v) in
      let A : ℕ = sum_over (λ p. value_of size_of (W p v)) (us v) in
      let B : ℕ = sum_over (λ q. value_of size_of (W v q)) (us v) in
      let more = left_more size_of sizes_more k.tree W v (us v) (h.linked.start v i, (h.linked.end v i, others v s.left)) in
      let made = new_values size_of sizes_more k.tree W v (us v) in
      let split : into_count W v (us v) * (out_count W v (us v) * size_of (k.tree v) + sum_over (λ q. value_of size_of (W v q)) (us v)) ≡
      into_count W v (us v) * (out_count W v (us v) * size_of (k.tree v)) + into_count W v (us v) * sum_over
      (λ q. value_of size_of (W v q)) (us v)
      = mul-add (into_count W v (us v)) (out_count W v (us v) * size_of (k.tree v)) (sum_over (λ q. value_of size_of (W v q)) (us v)) in
      let all : 500000 < over_pairs (λ p q. value_of size_of (taken_out k.tree v W p q)) (us v) = omega (arith, more, made, split, past) in
      let there : 500000 < over_pairs (λ p q. value_of size_of (ways_at k (next_stage v s) p q)) (us v) = subst
      (λ (X : ℕ → ℕ → List (List Tree)). 500000 < over_pairs (λ p q. value_of size_of (X p q)) (us v)) (sym is) all in
      let heavy : 500000 < mass size_of k.tree k.from k.to (ways_at k (next_stage v s)) (without v s.left) = omega (arith, there) in
      stage_large 500000 rank k (next_stage v s) next.way up next.linked heavy
