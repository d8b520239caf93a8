-- The plan that is left when nodes are taken out says the ways that are left.
use Rattle.std.proofs.Common.{◌≡◌, ℕ, zero, suc, ◌≤◌, ◌⊎◌, inl, inr, max, Bool, true, false, if◌then◌else◌, ◌||◌, nat_eq, List, [], ◌∷◌}
use Rattle.std.proofs.Common.{◌++◌, map, refl, sym, ap, subst, ◌∙◌, arith}
use Rattle.std.specs.Prelude.{◌&&◌}
use Rattle.std.proofs.lemmas.Bool.Decides.{nat_tests}
use Rattle.wsym_terms.specs.declared.trees.Tree.{Tree}
use Rattle.tree_law.specs.Ways.{members, through, edge_ways, IsIn}
use Rattle.elimination_plans.specs.Plans.{way_of, Unrolls, top, Falls}
use Rattle.elimination_plans.specs.PlanSteps.{some, and_gone, ways_step, ways_after, plan_step, plan_after, edge_plan, Stands}

pub ap2 : {A B C : Type 0} (f : A → B → C) {a b : A} {c d : B} → a ≡ b → c ≡ d → f a c ≡ f b d
ap2 f p q = cc

first_stays : {A : Type 0} (b c : Bool) (x y : A) → b ≡ true → (if b || c then x else y) ≡ x
first_stays b c x y e = ap (λ t. if t || c then x else y) e

second_stays : {A : Type 0} (b c : Bool) (x y : A) → c ≡ true → (if b || c then x else y) ≡ x
second_stays true c x y e = refl
second_stays false c x y e = ap (λ t. if t then x else y) e

stays_gone : (v p : ℕ) (gone : ℕ → Bool) → gone p ≡ true → and_gone v gone p ≡ true
stays_gone v p gone e = either (nat_eq p v)
  where
    either : (b : Bool) → (b || gone p) ≡ true
    either true = refl
    either false = e

now_gone : (v : ℕ) (gone : ℕ → Bool) → and_gone v gone v ≡ true
now_gone v gone = (let e : nat_eq v v ≡ true = grind (arith, nat_tests) in ap (λ t. t || gone v) e)

some_map : {A B : Type 0} (f : A → B) (xs : List A) → some (map f xs) ≡ some xs
some_map f [] = refl
some_map f (x ∷ xs) = refl

through_is : (a : List (List Tree)) (t : Tree) (b : List (List Tree)) → through a t b ≡
    (if some a && some b then (members a ++ t ∷ members b) ∷ [] else [])
through_is [] t b = refl
through_is (a ∷ into) t [] = refl
through_is (a ∷ into) t (b ∷ out) = refl

map_same : {A : Type 0} (f g : ℕ → A) (xs : List ℕ) → ((x : ℕ) → IsIn x xs → f x ≡ g x) → map f xs ≡ map g xs
map_same f g [] h = refl
map_same f g (x ∷ xs) h = ap2 (λ y ys. y ∷ ys) (h x (inl refl)) (map_same f g xs (λ y i. h y (inr i)))

map_append : {A B : Type 0} (f : A → B) (xs ys : List A) → map f (xs ++ ys) ≡ map f xs ++ map f ys
map_append f [] ys = refl
map_append f (x ∷ xs) ys = ap (λ l. f x ∷ l) (map_append f xs ys)

in_append : (x : ℕ) (xs ys : List ℕ) → IsIn x (xs ++ ys) → IsIn x xs ⊎ IsIn x ys
in_append x [] ys i = inr i
in_append x (y ∷ xs) ys (inl e) = inl (inl e)
in_append x (y ∷ xs) ys (inr i) = onward (in_append x xs ys i)
  where
    onward : IsIn x xs ⊎ IsIn x ys → IsIn x (y ∷ xs) ⊎ IsIn x ys
    onward (inl j) = inl (inr j)
    onward (inr j) = inr j

top_append : (xs ys : List ℕ) → top (xs ++ ys) ≡ max (top xs) (top ys)
top_append [] ys = omega arith
top_append (x ∷ xs) ys = (let r = top_append xs ys in omega (arith, r))

module _ (tree : ℕ → Tree) (node : ℕ → ℕ) where
  pub record Planned (gone : ℕ → Bool) (i : ℕ) (P : ℕ → ℕ → List ℕ) (W : ℕ → ℕ → List (List Tree)) : Type 0 where
    pub unrolls : Unrolls tree node P W
    pub taken : (p q j : ℕ) → IsIn (suc j) (P p q) → gone (node j) ≡ true
    pub falls : Falls node P
    pub low : (p q : ℕ) → top (P p q) ≤ suc i

  module _ (gone : ℕ → Bool) (i v : ℕ) (P : ℕ → ℕ → List ℕ) (W : ℕ → ℕ → List (List Tree)) (h : Planned gone i P W) (here : node i ≡ v)
    where
      abbrev P' : ℕ → ℕ → List ℕ
      P' = plan_step gone i v P

      abbrev W' : ℕ → ℕ → List (List Tree)
      W' = ways_step tree gone v W

      plan_first : (p q : ℕ) → and_gone v gone p ≡ true → P' p q ≡ P p q
      plan_first p q e = first_stays (and_gone v gone p) (and_gone v gone q) (P p q) _ e

      plan_second : (p q : ℕ) → and_gone v gone q ≡ true → P' p q ≡ P p q
      plan_second p q e = second_stays (and_gone v gone p) (and_gone v gone q) (P p q) _ e

      ways_first : (p q : ℕ) → and_gone v gone p ≡ true → W' p q ≡ W p q
      ways_first p q e = first_stays (and_gone v gone p) (and_gone v gone q) (W p q) _ e

      ways_second : (p q : ℕ) → and_gone v gone q ≡ true → W' p q ≡ W p q
      ways_second p q e = second_stays (and_gone v gone p) (and_gone v gone q) (W p q) _ e

      -- a way that was there stays the same
      same_way : (p q e : ℕ) → IsIn e (P p q) → way_of tree node W p q e ≡ way_of tree node W' p q e
      same_way p q zero j = refl
      same_way p q (suc j) k =
          let g : and_gone v gone (node j) ≡ true = stays_gone v (node j) gone (h.taken p q j k) in
          ap2 (λ (a b : List (List Tree)). members a ++ tree (node j) ∷ members b) (sym (ways_second p (node j) g))
          (sym (ways_first (node j) q g))

      old_ways : (p q : ℕ) → W p q ≡ map (way_of tree node W' p q) (P p q)
      old_ways p q = h.unrolls p q ∙ map_same (way_of tree node W p q) (way_of tree node W' p q) (P p q) (same_way p q)

      new_way : (p q : ℕ) → through (W p v) (tree v) (W v q) ≡ map (way_of tree node W' p q)
          (if some (P p v) && some (P v q) then suc i ∷ [] else [])
      new_way p q =
          through_is (W p v) (tree v) (W v q)
          ∙ ap2 (λ (b c : Bool). if b && c then (members (W p v) ++ tree v ∷ members (W v q)) ∷ [] else [])
          (ap some (h.unrolls p v) ∙ some_map (way_of tree node W p v) (P p v))
          (ap some (h.unrolls v q) ∙ some_map (way_of tree node W v q) (P v q))
          ∙ by_test (some (P p v) && some (P v q))
        where
          made : members (W p v) ++ tree v ∷ members (W v q) ≡ way_of tree node W' p q (suc i)
          made =
              ap2 (λ (a b : List (List Tree)). members a ++ tree v ∷ members b) (sym (ways_second p v (now_gone v gone)))
              (sym (ways_first v q (now_gone v gone)))
              ∙ ap (λ (u : ℕ). members (W' p u) ++ tree u ∷ members (W' u q)) (sym here)

          by_test : (b : Bool) → (if b then (members (W p v) ++ tree v ∷ members (W v q)) ∷ [] else []) ≡ map (way_of tree node W' p q)
              (if b then suc i ∷ [] else [])
          by_test true = ap (λ x. x ∷ []) made
          by_test false = refl

      step_unrolls : Unrolls tree node P' W'
      step_unrolls p q = by_test (and_gone v gone p || and_gone v gone q)
        where
          by_test : (b : Bool) → (if b then W p q else W p q ++ through (W p v) (tree v) (W v q)) ≡ map (way_of tree node W' p q)
              (if b then P p q else P p q ++ (if some (P p v) && some (P v q) then suc i ∷ [] else []))
          by_test true = old_ways p q
          by_test false = ap2 (λ (a b : List (List Tree)). a ++ b) (old_ways p q) (new_way p q)
              ∙ sym (map_append (way_of tree node W' p q) (P p q) (if some (P p v) && some (P v q) then suc i ∷ [] else []))

      -- a number of the new plan is one of the old, or the new one
      old_or_new : (p q e : ℕ) → IsIn e (P' p q) → IsIn e (P p q) ⊎ (e ≡ suc i)
      old_or_new p q e = by_test (and_gone v gone p || and_gone v gone q)
        where
          by_new : (c : Bool) → IsIn e (if c then suc i ∷ [] else []) → e ≡ suc i
          by_new true (inl same) = same
          by_new true (inr none) = absurd none
          by_new false none = absurd none

          by_place : IsIn e (P p q) ⊎ IsIn e (if some (P p v) && some (P v q) then suc i ∷ [] else []) → IsIn e (P p q) ⊎ (e ≡ suc i)
          by_place (inl j) = inl j
          by_place (inr j) = inr (by_new (some (P p v) && some (P v q)) j)

          by_test : (b : Bool) → IsIn e (if b then P p q else P p q ++ (if some (P p v) && some (P v q) then suc i ∷ [] else []))
              → IsIn e (P p q) ⊎ (e ≡ suc i)
          by_test true j = inl j
          by_test false j = by_place (in_append e (P p q) (if some (P p v) && some (P v q) then suc i ∷ [] else []) j)

      same_place : (j : ℕ) → suc j ≡ suc i → j ≡ i
      same_place j e = omega (arith, e)

      step_taken : (p q j : ℕ) → IsIn (suc j) (P' p q) → and_gone v gone (node j) ≡ true
      step_taken p q j k = either (old_or_new p q (suc j) k)
        where
          either : IsIn (suc j) (P p q) ⊎ (suc j ≡ suc i) → and_gone v gone (node j) ≡ true
          either (inl old) = stays_gone v (node j) gone (h.taken p q j old)
          either (inr e) = subst (λ (u : ℕ). and_gone v gone u ≡ true) (sym (ap node (same_place j e) ∙ here)) (now_gone v gone)

      step_falls : Falls node P'
      step_falls p q j k = either (old_or_new p q (suc j) k)
        where
          g : and_gone v gone (node j) ≡ true
          g = step_taken p q j k

          over : (top (P p (node j)) ≤ suc j) × (top (P (node j) q) ≤ suc j) → (top (P' p (node j)) ≤ suc j) × (top (P' (node j) q) ≤ suc j)
          over f = (
            subst (λ l. top l ≤ suc j) (sym (plan_second p (node j) g)) f.0,
            subst (λ l. top l ≤ suc j)
                (sym (plan_first (node j) q g)) f.1,
          )

          either : IsIn (suc j) (P p q) ⊎ (suc j ≡ suc i) → (top (P' p (node j)) ≤ suc j) × (top (P' (node j) q) ≤ suc j)
          either (inl old) = over (h.falls p q j old)
          either (inr e) = (let a = h.low p (node j) in let b = h.low (node j) q in over (omega (arith, a, e), omega (arith, b, e)))

      step_low : (p q : ℕ) → top (P' p q) ≤ suc (suc i)
      step_low p q = by_test (and_gone v gone p || and_gone v gone q)
        where
          new_low : (c : Bool) → top (if c then suc i ∷ [] else []) ≤ suc (suc i)
          new_low true = omega arith
          new_low false = omega arith

          by_test : (b : Bool) → top (if b then P p q else P p q ++ (if some (P p v) && some (P v q) then suc i ∷ [] else [])) ≤ suc (suc i)
          by_test true = (let a = h.low p q in omega (arith, a))
          by_test false =
              let a = h.low p q in
              let b = new_low (some (P p v) && some (P v q)) in
              let e = top_append (P p q) (if some (P p v) && some (P v q) then suc i ∷ [] else []) in
              omega (arith, a, b, e)

      pub step_planned : Planned (and_gone v gone) (suc i) P' W'
      step_planned = record { unrolls = step_unrolls; taken = step_taken; falls = step_falls; low = step_low }

  pub all_planned : (vs : List ℕ) (gone : ℕ → Bool) (i : ℕ) (P : ℕ → ℕ → List ℕ) (W : ℕ → ℕ → List (List Tree)) → Planned gone i P W
      → Stands node i vs
      → Unrolls tree node (plan_after vs gone i P) (ways_after tree vs gone W) × Falls node (plan_after vs gone i P)
  all_planned [] gone i P W h s = (h.unrolls, h.falls)
  all_planned (v ∷ vs) gone i P W h s = all_planned vs (and_gone v gone) (suc i) (plan_step gone i v P) (ways_step tree gone v W)
      (step_planned gone i v P W h s.0) s.1

  pub start_planned : (edge : ℕ → ℕ → Bool) → Planned (λ p. false) 0 (edge_plan edge) (edge_ways edge)
  start_planned edge =
      record {
        unrolls = λ p q. by_edge p q (edge p q);
        taken = λ p q j k. absurd (none (edge p q) j k);
        falls = λ p q j k. absurd (none (edge p q) j k);
        low = λ p q. one_low (edge p q);
      }
    where
      by_edge : (p q : ℕ) (b : Bool) → (if b then [] ∷ [] else []) ≡ map (way_of tree node (edge_ways edge) p q) (if b then 0 ∷ [] else [])
      by_edge p q true = refl
      by_edge p q false = refl

      none : (b : Bool) (j : ℕ) → IsIn (suc j) (if b then 0 ∷ [] else []) → ⊥
      none true j (inl e) = omega (arith, e)
      none true j (inr k) = k
      none false j k = k

      one_low : (b : Bool) → top (if b then 0 ∷ [] else []) ≤ 1
      one_low true = omega arith
      one_low false = omega arith
