-- Taking out one node after another gives the definition's order and the plan.
use Rattle.std.proofs.Common.{◌≡◌, ℕ, zero, suc, ◌+◌, ◌<◌, ◌≤◌, Bool, true, false, if◌then◌else◌, List, [], ◌∷◌, ◌++◌, length, refl, sym}
use Rattle.std.proofs.Common.{ap, subst, ◌∙◌, arith, append_assoc}
use Rattle.std.specs.Prelude.{Option, Some, None}
use Rattle.wsym_terms.specs.declared.trees.Tree.{Tree}
use Rattle.tree_law.specs.Ways.{taken_out, all_taken_out, edge_ways}
use Rattle.tree_law.specs.NodeOrders.{first_least, first_then, weight_after, without, order_in, order_of}
use Rattle.tree_law.proofs.NodeOrderLemmas.{least_is_in, shorter}
use Rattle.elimination_plans.specs.PlanSteps.{and_gone, plan_step, plan_after, edge_plan}
use Rattle.elimination_plans.specs.Stages.{Task, Stage, first_stage, gone_after, ways_at, Went, IsDone}

pub taken_last : (tree : ℕ → Tree) (vs : List ℕ) (v : ℕ) (ways : ℕ → ℕ → List (List Tree))
    → all_taken_out tree (vs ++ v ∷ []) ways ≡ taken_out tree v (all_taken_out tree vs ways)
taken_last tree [] v ways = refl
taken_last tree (u ∷ us) v ways = taken_last tree us v (taken_out tree u ways)

plan_last : (vs : List ℕ) (v : ℕ) (gone : ℕ → Bool) (i : ℕ) (P : ℕ → ℕ → List ℕ)
    → plan_after (vs ++ v ∷ []) gone i P ≡ plan_step (gone_after vs gone) (i + length vs) v (plan_after vs gone i P)
plan_last [] v gone i P = ap (λ (n : ℕ). plan_step gone n v P) (omega arith)
plan_last (u ∷ us) v gone i P =
    plan_last us v (and_gone u gone) (suc i) (plan_step gone i u P)
    ∙ ap (λ (n : ℕ). plan_step (gone_after us (and_gone u gone)) n v (plan_after us (and_gone u gone) (suc i) (plan_step gone i u P)))
    (omega arith)

module _ (tree : ℕ → Tree) (s t : ℕ) where
  -- steps past the last do nothing
  enough : (n m : ℕ) (ways : ℕ → ℕ → List (List Tree)) (left : List ℕ) → length left ≤ n → length left ≤ m
      → order_in tree s t n ways left ≡ order_in tree s t m ways left
  enough zero zero ways left h k = refl
  enough zero (suc m) ways [] h k = refl
  enough zero (suc m) ways (v ∷ vs) h k = absurd (omega (arith, h))
  enough (suc n) zero ways [] h k = refl
  enough (suc n) zero ways (v ∷ vs) h k = absurd (omega (arith, k))
  enough (suc n) (suc m) ways left h k = by_first (λ v. enough n m (taken_out tree v ways) (without v left))
      (first_least (weight_after tree s t ways left) left) refl
    where
      by_first : ((v : ℕ) → length (without v left) ≤ n → length (without v left) ≤ m
          → order_in tree s t n (taken_out tree v ways) (without v left) ≡ order_in tree s t m (taken_out tree v ways) (without v left))
          → (o : Option ℕ) → first_least (weight_after tree s t ways left) left ≡ o
          → first_then (λ v. order_in tree s t n (taken_out tree v ways) (without v left)) o ≡ first_then
          (λ v. order_in tree s t m (taken_out tree v ways) (without v left)) o
      by_first ih None e = refl
      by_first ih (Some v) e =
          let l = shorter v left (least_is_in (weight_after tree s t ways left) left v e) in
          ap (λ vs. v ∷ vs) (ih v (omega (arith, h, l)) (omega (arith, k, l)))

  order_next : (ways : ℕ → ℕ → List (List Tree)) (left : List ℕ) (v : ℕ) → first_least (weight_after tree s t ways left) left ≡ Some v
      → order_of tree s t ways left ≡ v ∷ order_of tree s t (taken_out tree v ways) (without v left)
  order_next ways left v e =
      let l = shorter v left (least_is_in (weight_after tree s t ways left) left v e) in
      enough (length left) (suc (length left)) ways left (omega arith) (omega arith)
      ∙ ap (first_then (λ u. order_in tree s t (length left) (taken_out tree u ways) (without u left))) e
      ∙ ap (λ vs. v ∷ vs) (enough (length left) (length (without v left)) (taken_out tree v ways) (without v left) (omega (arith, l))
      (omega arith))

pub record IsOnTheWay (k : Task) (s : Stage) : Type 0 where
  pub order : s.taken ++ order_of k.tree k.from k.to (ways_at k s) s.left ≡ order_of k.tree k.from k.to (edge_ways k.edge) k.nodes
  pub plan : s.plan ≡ plan_after s.taken (λ p. false) 0 (edge_plan k.edge)

pub on_start : (k : Task) (s : Stage) → s ≡ first_stage k → IsOnTheWay k s
on_start k s e = subst (IsOnTheWay k) (sym e) (record { order = refl; plan = refl })

grouped : (xs : List ℕ) (v : ℕ) (ys : List ℕ) → (xs ++ v ∷ []) ++ ys ≡ xs ++ v ∷ ys
grouped xs v ys = simp append_assoc

pub on_next : (k l : Task) (s t : Stage) (more : Bool) → l ≡ k → IsOnTheWay k s → Went l s t more → IsOnTheWay k t
on_next k l s t true e h (v, f, g) = subst (IsOnTheWay k) (sym g) (record { order = order; plan = plan })
  where
    least : first_least (weight_after k.tree k.from k.to (ways_at k s) s.left) s.left ≡ Some v
    least = subst (λ (m : Task). first_least (weight_after m.tree m.from m.to (ways_at m s) s.left) s.left ≡ Some v) e f

    order : (s.taken ++ v ∷ []) ++ order_of k.tree k.from k.to (all_taken_out k.tree (s.taken ++ v ∷ []) (edge_ways k.edge))
        (without v s.left) ≡ order_of k.tree k.from k.to (edge_ways k.edge) k.nodes
    order =
        ap (λ (w : ℕ → ℕ → List (List Tree)). (s.taken ++ v ∷ []) ++ order_of k.tree k.from k.to w (without v s.left))
        (taken_last k.tree s.taken v (edge_ways k.edge))
        ∙ grouped s.taken v (order_of k.tree k.from k.to (taken_out k.tree v (ways_at k s)) (without v s.left))
        ∙ ap (λ vs. s.taken ++ vs) (sym (order_next k.tree k.from k.to (ways_at k s) s.left v least))
        ∙ h.order

    plan : plan_step (gone_after s.taken (λ p. false)) (length s.taken) v s.plan ≡ plan_after (s.taken ++ v ∷ []) (λ p. false) 0
        (edge_plan k.edge)
    plan =
        ap (plan_step (gone_after s.taken (λ p. false)) (length s.taken) v) h.plan
        ∙ ap (λ (n : ℕ). plan_step (gone_after s.taken (λ p. false)) n v (plan_after s.taken (λ p. false) 0 (edge_plan k.edge)))
        (omega arith)
        ∙ sym (plan_last s.taken v (λ p. false) 0 (edge_plan k.edge))
on_next k l s t false e h (f, g) = subst (IsOnTheWay k) (sym g) h

pub none_after : (k l : Task) (s t : Stage) (more : Bool) → l ≡ k → Went l s t more → more ≡ false → t.left ≡ []
none_after k l s t true e w f = absurd (cc)
none_after k l s t false e (a, g) f = ap (λ (u : Stage). u.left) g ∙ a

append_none : (xs : List ℕ) → xs ++ [] ≡ xs
append_none [] = refl
append_none (x ∷ xs) = ap (λ l. x ∷ l) (append_none xs)

pub all_done : (k : Task) (s : Stage) → IsOnTheWay k s → s.left ≡ [] → IsDone k s
all_done k s h e = (sym (append_none s.taken) ∙ ap (λ l. s.taken ++ order_of k.tree k.from k.to (ways_at k s) l) (sym e) ∙ h.order, h.plan)

abbrev pub measure : Bool → Stage → ℕ
measure more s = (if more then 1 else 0) + length s.left

turn : (flag : Bool) → flag ≡ true → ◌≡◌ {A = ℕ} (if flag then 1 else 0) 1
turn flag e = ap (λ (c : Bool). if c then 1 else 0) e

pub went_smaller : (k : Task) (s t : Stage) (flag more : Bool) → flag ≡ true → Went k s t more → measure more t < measure flag s
went_smaller k s t flag true e (v, f, g) =
    let l = shorter v s.left (least_is_in (weight_after k.tree k.from k.to (ways_at k s) s.left) s.left v f) in
    let a : length t.left ≡ length (without v s.left) = ap (λ (u : Stage). length u.left) g in
    let b = turn flag e in
    omega (arith, l, a, b)
went_smaller k s t flag false e (f, g) =
    let a : length t.left ≡ length s.left = ap (λ (u : Stage). length u.left) g in
    let b = turn flag e in
    omega (arith, a, b)
