-- What holds at each stage that is reached.
use Rattle.std.proofs.Common.{◌≡◌, ℕ, zero, suc, ◌+◌, ◌<◌, ◌⊎◌, inl, inr, Bool, true, false, if◌then◌else◌, ◌||◌, nat_eq, List, [], ◌∷◌}
use Rattle.std.proofs.Common.{◌++◌, length, refl, sym, ap, subst, ◌∙◌, arith}
use Rattle.std.specs.Prelude.{◌&&◌, Some}
use Rattle.std.specs.List.{AllByRecursion}
use Rattle.std.proofs.lemmas.Bool.Decides.{nat_tests}
use Rattle.wsym_terms.specs.declared.trees.Tree.{Tree}
use Rattle.tree_law.specs.Ways.{through, taken_out, edge_ways, IsIn}
use Rattle.tree_law.specs.NodeOrders.{sum_over, without, first_least, weight_after}
use Rattle.tree_law.proofs.NodeOrderLemmas.{least_is_in}
use Rattle.elimination_plans.specs.PlanSteps.{some, and_gone, plan_step}
use Rattle.elimination_plans.specs.Stages.{Task, Stage, first_stage, gone_after, next_stage, ways_at}
use Rattle.elimination_plans.specs.Weights.{Only}
use Rattle.elimination_plans.proofs.PlanStepLemmas.{ap2}
use Rattle.elimination_plans.proofs.WeightLemmas.{sum_out}
use Rattle.elimination_plans.proofs.LeastNodeLemmas.{Rising, later}
use Rattle.elimination_plans.proofs.LinkedLevelLemmas.{Linked, step_linked, in_left, through_some, append_some, apart}
use Rattle.elimination_plans.proofs.StageLemmas.{IsOnTheWay, on_start, on_next, taken_last}
use Rattle.elimination_plans.proofs.StartLemmas.{start_linked, some_edge}
use Rattle.node_elimination.specs.LevelStates.{Rises, IsTask, StageAfter, all_of, gone}
use Rattle.node_elimination.proofs.CellChangeLemmas.{self_eq}

pub record Ready (k : Task) (rank : ℕ → ℕ) (s : Stage) : Type 0 where
  pub way : IsOnTheWay k s
  pub linked : Linked k.tree k.from k.to rank (ways_at k s) s.left
  pub rising : Rising s.left
  pub sum : (f : ℕ → ℕ) → ((u : ℕ) → gone s u ≡ true → f u ≡ 0) → sum_over f (all_of k) ≡ sum_over f (k.from ∷ k.to ∷ s.left)
  pub empty : (u p : ℕ) → gone s u ≡ true → (ways_at k s p u ≡ []) × (ways_at k s u p ≡ [])
  pub inside : (p q : ℕ) → some (ways_at k s p q) ≡ true → IsIn p (all_of k) × IsIn q (all_of k)
  pub numbered : (p q : ℕ) → gone s p ≡ false → gone s q ≡ false → some (s.plan p q) ≡ some (ways_at k s p q)
  pub left_in : (u : ℕ) → IsIn u s.left → IsIn u k.nodes
  pub here : (u : ℕ) → IsIn u s.left → gone s u ≡ false

pub rises_is : (xs : List ℕ) → Rises xs → Rising xs
rises_is [] r = tt
rises_is (x ∷ xs) r = (r.0, rises_is xs r.1)

pub only_rising : (xs : List ℕ) (v : ℕ) → Rising xs → IsIn v xs → Only v xs
only_rising [] v r i = absurd i
only_rising (x ∷ xs) v r (inl e) = inl (
  (grind (arith, nat_tests)),
  all_above xs
      (subst (λ (y : ℕ). AllByRecursion (λ z. y < z) xs) (sym e) r.0),
)
  where
    above : (w : ℕ) → v < w → nat_eq w v ≡ false
    above w l = grind (arith, nat_tests)

    all_above : (ys : List ℕ) → AllByRecursion (λ y. v < y) ys → AllByRecursion (λ w. nat_eq w v ≡ false) ys
    all_above [] all = tt
    all_above (y ∷ ys) all = (above y all.0, all_above ys all.1)
only_rising (x ∷ xs) v r (inr i) = (let l = later x v xs r.0 i in inr ((grind (arith, nat_tests)), only_rising xs v r.1 i))

-- ---- the start

pub ready_start : (k : Task) (rank : ℕ → ℕ) → IsTask k rank → Ready k rank (first_stage k)
ready_start k rank h =
    record {
      way = on_start k (first_stage k) refl;
      linked = start_linked k.tree k.from k.to rank k.edge k.nodes h.rises h.kept h.start h.end
          (λ v i. only_rising k.nodes v (rises_is k.nodes h.rising) i);
      rising = rises_is k.nodes h.rising;
      sum = λ f z. refl;
      empty = λ u p e. absurd (cc);
      inside = λ p q e. h.inside p q (sym (some_edge k.edge p q) ∙ e);
      numbered = λ p q a b. by_edge (k.edge p q);
      left_in = λ u i. i;
      here = λ u i. refl;
    }
  where
    by_edge : (b : Bool) → some {A = ℕ} (if b then 0 ∷ [] else []) ≡ some {A = List Tree} (if b then [] ∷ [] else [])
    by_edge true = refl
    by_edge false = refl

-- ---- a step

pub gone_last : (vs : List ℕ) (v : ℕ) (g : ℕ → Bool) (u : ℕ) → gone_after (vs ++ v ∷ []) g u ≡ and_gone v (gone_after vs g) u
gone_last [] v g u = refl
gone_last (w ∷ vs) v g u = gone_last vs v (and_gone w g) u

none_through : (a : List (List Tree)) (x : Tree) → through a x [] ≡ []
none_through [] x = refl
none_through (a ∷ more) x = refl

some_step : (a c d : List (List Tree)) (x : Tree) → some (a ++ through c x d) ≡ (some a || (some c && some d))
some_step (w ∷ a) c d x = refl
some_step [] [] d x = refl
some_step [] (c ∷ cs) [] x = refl
some_step [] (c ∷ cs) (d ∷ ds) x = refl

some_plan : (a : List ℕ) (b : Bool) (n : ℕ) → some (a ++ (if b then n ∷ [] else [])) ≡ (some a || b)
some_plan (x ∷ a) b n = refl
some_plan [] true n = refl
some_plan [] false n = refl

either_gone : (a b : Bool) → (a || b) ≡ true → (a ≡ true) ⊎ (b ≡ true)
either_gone true b e = inl refl
either_gone false b e = inr e

neither : (a b : Bool) → (a || b) ≡ false → (a ≡ false) × (b ≡ false)
neither true b e = absurd (cc)
neither false b e = (refl, e)

rising_without : (v : ℕ) (xs : List ℕ) → Rising xs → Rising (without v xs)
rising_without v [] r = tt
rising_without v (x ∷ xs) r = by_test (nat_eq x v) (rising_without v xs r.1)
  where
    fewer : (ys : List ℕ) → AllByRecursion (λ y. x < y) ys → AllByRecursion (λ y. x < y) (without v ys)
    fewer [] all = tt
    fewer (y ∷ ys) all = one (nat_eq y v) (fewer ys all.1)
      where
        one : (b : Bool) → AllByRecursion (λ y. x < y) (without v ys) → AllByRecursion (λ y. x < y)
            (if b then without v ys else y ∷ without v ys)
        one true rest = rest
        one false rest = (all.0, rest)

    by_test : (b : Bool) → Rising (without v xs) → Rising (if b then without v xs else x ∷ without v xs)
    by_test true rest = rest
    by_test false rest = (fewer xs r.0, rest)

module _ (k : Task) (rank : ℕ → ℕ) (s : Stage) (v : ℕ) (h : Ready k rank s)
    (least : first_least (weight_after k.tree k.from k.to (ways_at k s) s.left) s.left ≡ Some v) where
  abbrev W : ℕ → ℕ → List (List Tree)
  W = ways_at k s

  pub v_in : IsIn v s.left
  v_in = least_is_in (weight_after k.tree k.from k.to (ways_at k s) s.left) s.left v least

  pub ways_next : ways_at k (next_stage v s) ≡ taken_out k.tree v (ways_at k s)
  ways_next = taken_last k.tree s.taken v (edge_ways k.edge)

  pub gone_next : (u : ℕ) → gone (next_stage v s) u ≡ (nat_eq u v || gone s u)
  gone_next u = gone_last s.taken v (λ p. false) u

  next_sum : (f : ℕ → ℕ) → ((u : ℕ) → gone (next_stage v s) u ≡ true → f u ≡ 0)
      → sum_over f (all_of k) ≡ sum_over f (k.from ∷ k.to ∷ without v s.left)
  next_sum f z =
      let old : sum_over f (all_of k) ≡ sum_over f (k.from ∷ k.to ∷ s.left) = h.sum f
      (λ u e. z u (gone_next u ∙ ap (λ (b : Bool). nat_eq u v || b) e ∙ or_true (nat_eq u v))) in
      let out : sum_over f s.left ≡ f v + sum_over f (without v s.left) = sum_out f v s.left (h.linked.once v v_in) in
      let none : f v ≡ 0 = z v (gone_next v ∙ ap (λ (b : Bool). b || gone s v) (self_eq v)) in
      omega (arith, old, out, none)
    where
      or_true : (b : Bool) → (b || true) ≡ true
      or_true true = refl
      or_true false = refl

  gone_out : (u p : ℕ) → (nat_eq u v || gone s u) ≡ true → (taken_out k.tree v W p u ≡ []) × (taken_out k.tree v W u p ≡ [])
  gone_out u p e = by_case (either_gone (nat_eq u v) (gone s u) e)
    where
      first : (b : Bool) → (if b || true then [] else W p u ++ through (W p v) (k.tree v) (W v u)) ≡ []
      first true = refl
      first false = refl

      left_out : (b : Bool) → W p u ≡ [] → W v u ≡ [] → (if b then [] else W p u ++ through (W p v) (k.tree v) (W v u)) ≡ []
      left_out true a c = refl
      left_out false a c = ap2 (λ (x y : List (List Tree)). x ++ through (W p v) (k.tree v) y) a c ∙ none_through (W p v) (k.tree v)

      right_out : (b : Bool) → W u p ≡ [] → W u v ≡ [] → (if b then [] else W u p ++ through (W u v) (k.tree v) (W v p)) ≡ []
      right_out true a c = refl
      right_out false a c = ap2 (λ (x y : List (List Tree)). x ++ through y (k.tree v) (W v p)) a c

      by_case : (nat_eq u v ≡ true) ⊎ (gone s u ≡ true) → (taken_out k.tree v W p u ≡ []) × (taken_out k.tree v W u p ≡ [])
      by_case (inl f) = (
        ap (λ (b : Bool). if nat_eq p v || b then [] else W p u ++ through (W p v) (k.tree v) (W v u)) f ∙ first (nat_eq p v),
        ap (λ (b : Bool). if b || nat_eq p v then [] else W u p ++ through (W u v) (k.tree v) (W v p)) f,
      )
      by_case (inr g) = (
        left_out (nat_eq p v || nat_eq u v) (h.empty u p g).0 (h.empty u v g).0,
        right_out (nat_eq u v || nat_eq p v)
            (h.empty u p g).1 (h.empty u v g).1,
      )

  next_inside : (p q : ℕ) → some (taken_out k.tree v W p q) ≡ true → IsIn p (all_of k) × IsIn q (all_of k)
  next_inside p q e = by_test (nat_eq p v || nat_eq q v) e
    where
      by_part : (some (W p q) ≡ true) ⊎ (some (through (W p v) (k.tree v) (W v q)) ≡ true) → IsIn p (all_of k) × IsIn q (all_of k)
      by_part (inl f) = h.inside p q f
      by_part (inr f) = (let g = through_some (W p v) (k.tree v) (W v q) f in ((h.inside p v g.0).0, (h.inside v q g.1).1))

      by_test : (b : Bool) → some (if b then [] else W p q ++ through (W p v) (k.tree v) (W v q)) ≡ true → IsIn p (all_of k)
          × IsIn q (all_of k)
      by_test true f = absurd (cc)
      by_test false f = by_part (append_some (W p q) (through (W p v) (k.tree v) (W v q)) f)

  next_numbered : (p q : ℕ) → (nat_eq p v || gone s p) ≡ false → (nat_eq q v || gone s q) ≡ false
      → some (plan_step (gone s) (length s.taken) v s.plan p q) ≡ some (taken_out k.tree v W p q)
  next_numbered p q a b =
      let ea = neither (nat_eq p v) (gone s p) a in
      let eb = neither (nat_eq q v) (gone s q) b in
      let gv = h.here v v_in in
      ap2 (λ (x y : Bool). some (if x || y then s.plan p q else s.plan p q ++
      (if some (s.plan p v) && some (s.plan v q) then suc (length s.taken) ∷ [] else []))) a b
      ∙ some_plan (s.plan p q) (some (s.plan p v) && some (s.plan v q)) (suc (length s.taken))
      ∙ ap2 (λ (x y : Bool). x || y) (h.numbered p q ea.1 eb.1) (ap2 (λ (x y : Bool). x && y) (h.numbered p v ea.1 gv)
      (h.numbered v q gv eb.1))
      ∙ sym (ap2 (λ (x y : Bool). some (if x || y then [] else W p q ++ through (W p v) (k.tree v) (W v q))) ea.0 eb.0
      ∙ some_step (W p q) (W p v) (W v q) (k.tree v))

  next_here : (u : ℕ) → IsIn u (without v s.left) → (nat_eq u v || gone s u) ≡ false
  next_here u i =
      let j = in_left k.tree k.from k.to rank v u s.left i in
      ap2 (λ (x y : Bool). x || y) (apart u v j.1) (h.here u j.0)

  pub ready_next : Ready k rank (next_stage v s)
  ready_next =
      record {
        way = on_next k k s (next_stage v s) true refl h.way (v, least, refl);
        linked = subst (λ (X : ℕ → ℕ → List (List Tree)). Linked k.tree k.from k.to rank X (without v s.left)) (sym ways_next)
            (step_linked k.tree k.from k.to rank v (ways_at k s) s.left h.linked v_in);
        rising = rising_without v s.left h.rising;
        sum = next_sum;
        empty = λ u p e. subst (λ (X : ℕ → ℕ → List (List Tree)). (X p u ≡ []) × (X u p ≡ [])) (sym ways_next)
            (gone_out u p (sym (gone_next u) ∙ e));
        inside = λ p q e. next_inside p q (ap (λ (X : ℕ → ℕ → List (List Tree)). some (X p q)) (sym ways_next) ∙ e);
        numbered = λ p q a b. next_numbered p q (sym (gone_next p) ∙ a) (sym (gone_next q) ∙ b)
            ∙ ap (λ (X : ℕ → ℕ → List (List Tree)). some (X p q)) (sym ways_next);
        left_in = λ u i. h.left_in u (in_left k.tree k.from k.to rank v u s.left i).0;
        here = λ u i. gone_next u ∙ next_here u i;
      }

pub ready : (k : Task) (rank : ℕ → ℕ) → IsTask k rank → (n : ℕ) (s : Stage) → StageAfter k n s → Ready k rank s
ready k rank h zero s e = subst (Ready k rank) (sym e) (ready_start k rank h)
ready k rank h (suc n) s (u, before, (v, least, next)) = subst (Ready k rank) (sym next)
    (ready_next k rank u v (ready k rank h n u before) least)
