-- Closing edges, taken out of their set one after another.
use Rattle.std.proofs.Common.{◌≡◌, refl, sym, ap, ◌∙◌, subst, ℕ, ◌<◌, ◌≤◌, inl, inr, Bool, true, false, List, [], ◌∷◌, ◌++◌, arith}
use Rattle.std.specs.Prelude.{◌≢◌, ◌||◌, ◌&&◌, ◌==◌, nat_eq, if◌then◌else◌, cond}
use Rattle.std.specs.Ordering.{is_gt}
use Rattle.std.specs.BTreeMap.{is_at}
use Rattle.std.specs.BTreeSet as tree
use Rattle.std.specs.BTreeSet.{BTreeSet}
use Rattle.std.proofs.lemmas.Bool.{cases_eq, cases_Bool, or_cases, or_left, and_from, cond-true, cond-false, eqb-true, eq-eqb, ne_eqb}
use Rattle.std.proofs.lemmas.Bool.{false≢true}
use Rattle.std.proofs.lemmas.Bool.Decides.{nat_tests}
use Rattle.graph_search.specs.NodeLists.{holds}
use Rattle.graph_reduction.specs.Sets.{edge_cmp, in_set}
use Rattle.graph_search.specs.Orders.{Rising}
use Rattle.graph_search.specs.Rows.{row_in}
use Rattle.graph_search.proofs.OrderLemmas.{rising_end}
use Rattle.interval_loops.proofs.BlockOrderLemmas.{without_one}
use Rattle.graph_search.proofs.RowLemmas.{holds_end}

middle_le : (v a b c d : ℕ) → is_gt (edge_cmp (v, a, b) (v, c, d)) ≡ false → a ≤ c
middle_le v a b c d h = grind (arith, nat_tests)

less_than : (u v : ℕ) → u ≤ v → v ≢ u → u < v
less_than u v l ne = grind arith

true_or : (b c d : Bool) → b ≡ true → c ≡ true → b ≡ (c || d)
true_or b c d e f = e ∙ sym (ap (λ x. x || d) f)

module _ (first old new : BTreeSet (ℕ × ℕ × ℕ)) (t k z : ℕ) (zeros : (h u z : ℕ) → in_set first h u z ≡ true → z ≡ 0)
    (member : tree.contains edge_cmp old (t, k, z) ≡ true)
    (least : (q : ℕ × ℕ × ℕ) → tree.contains edge_cmp old q ≡ true → is_gt (edge_cmp (t, k, z) q) ≡ false)
    (updates : (q : ℕ × ℕ × ℕ) → tree.contains edge_cmp new q ≡ cond (is_at (edge_cmp (t, k, z)) q) false (tree.contains edge_cmp old q))
    (rows more : List (List ℕ)) (now : (q : ℕ) → row_in more q ≡ (if nat_eq q t then row_in rows q ++ k ∷ [] else row_in rows q))
    (less : (h u z : ℕ) → in_set old h u z ≡ true → in_set first h u z ≡ true)
    (exact : (h u : ℕ) → in_set first h u 0 ≡ (holds nat_eq u (row_in rows h) || in_set old h u 0))
    (order : (h u v : ℕ) → holds nat_eq u (row_in rows h) ≡ true → in_set old h v 0 ≡ true → u < v)
    (rising : (h : ℕ) → Rising (λ u. u) (row_in rows h)) where
  zero : z ≡ 0
  zero = zeros t k z (less t k z member)

  here : in_set old t k 0 ≡ true
  here = subst (λ x. in_set old t k x ≡ true) zero member

  change : (h u x : ℕ) → in_set new h u x ≡ (if (h == t) && (u == k) && (x == z) then false else in_set old h u x)
  change = without_one old new t k z updates

  was_in : (h u x : ℕ) → in_set new h u x ≡ true → in_set old h u x ≡ true
  was_in h u x e =
      elim (cases_Bool ((h == t) && (u == k) && (x == z))) as (λ _. in_set old h u x ≡ true) [
        | inl y ↦ absurd (false≢true (sym (change h u x ∙ cond-true ((h == t) && (u == k) && (x == z)) false (in_set old h u x) y) ∙ e))
        | inr f ↦ sym (change h u x ∙ cond-false ((h == t) && (u == k) && (x == z)) false (in_set old h u x) f) ∙ e
      ]

  as_before : (h u : ℕ) → ((h == t) && (u == k)) ≡ false → in_set new h u 0 ≡ in_set old h u 0
  as_before h u f = change h u 0 ∙ cond-false ((h == t) && (u == k) && (0 == z)) false (in_set old h u 0) (ap (λ b. b && (0 == z)) f)

  isnt_first : (h u : ℕ) → h ≢ t → ((h == t) && (u == k)) ≡ false
  isnt_first h u ne = ap (λ b. b && (u == k)) (ne_eqb h t ne)

  isnt_second : (p q : Bool) → q ≡ false → (p && q) ≡ false
  isnt_second true q e = e
  isnt_second false q e = refl

  other_row : (h : ℕ) → h ≢ t → row_in more h ≡ row_in rows h
  other_row h ne = now h ∙ cond-false (nat_eq h t) (row_in rows h ++ k ∷ []) (row_in rows h) (ne_eqb h t ne)

  this_row : (h : ℕ) → h ≡ t → row_in more h ≡ row_in rows h ++ k ∷ []
  this_row h e = now h ∙ cond-true (nat_eq h t) (row_in rows h ++ k ∷ []) (row_in rows h) (eq-eqb h t e)

  exact_now : (h u : ℕ) → in_set first h u 0 ≡ (holds nat_eq u (row_in more h) || in_set new h u 0)
  exact_now h u =
      elim (cases_eq h t) as (λ _. in_set first h u 0 ≡ (holds nat_eq u (row_in more h) || in_set new h u 0)) [
        | inr ne ↦
            exact h u ∙ (ap (λ b. holds nat_eq u (row_in rows h) || b) (sym (as_before h u (isnt_first h u ne))) ∙ ap
            (λ (xs : List ℕ). holds nat_eq u xs || in_set new h u 0) (sym (other_row h ne)))
        | inl e ↦
            let last = ap (holds nat_eq u) (this_row h e) ∙ holds_end u k (row_in rows h) in
            elim (cases_eq u k) as (λ _. in_set first h u 0 ≡ (holds nat_eq u (row_in more h) || in_set new h u 0)) [
              | inl s ↦
                  true_or (in_set first h u 0) (holds nat_eq u (row_in more h)) (in_set new h u 0)
                  (less h u 0 (subst (λ x. in_set old x u 0 ≡ true) (sym e) (subst (λ x. in_set old t x 0 ≡ true) (sym s) here)))
                  (last ∙ or_left (nat_eq u k) (holds nat_eq u (row_in rows h)) (eq-eqb u k s))
              | inr d ↦
                  exact h u
                  ∙ (ap (λ b. holds nat_eq u (row_in rows h) || b) (sym (as_before h u (isnt_second (h == t) (u == k) (ne_eqb u k d))))
                  ∙ ap (λ b. b || in_set new h u 0) (sym (last ∙ ap (λ b. b || holds nat_eq u (row_in rows h)) (ne_eqb u k d))))
            ]
      ]

  gone : (h v : ℕ) → h ≡ t → v ≡ k → in_set new h v 0 ≡ false
  gone h v e s =
      change h v 0 ∙ cond-true ((h == t) && (v == k) && (0 == z)) false (in_set old h v 0)
      (and_from ((h == t) && (v == k)) (0 == z) (and_from (h == t) (v == k) (eq-eqb h t e) (eq-eqb v k s)) (eq-eqb 0 z (sym zero)))

  order_now : (h u v : ℕ) → holds nat_eq u (row_in more h) ≡ true → in_set new h v 0 ≡ true → u < v
  order_now h u v i j =
      elim (cases_eq h t) as (λ _. u < v) [
        | inr ne ↦ order h u v (subst (λ (xs : List ℕ). holds nat_eq u xs ≡ true) (other_row h ne) i) (was_in h v 0 j)
        | inl e ↦
            elim (or_cases (nat_eq u k) (holds nat_eq u (row_in rows h))
            (sym (ap (holds nat_eq u) (this_row h e) ∙ holds_end u k (row_in rows h)) ∙ i)) as (λ _. u < v) [
              | inr o ↦ order h u v o (was_in h v 0 j)
              | inl s ↦
                  let same = eqb-true u k s in
                  let low = middle_le t k z v 0 (least (t, v, 0) (subst (λ x. in_set old x v 0 ≡ true) e (was_in h v 0 j))) in
                  let apart : v ≢ k = (λ q. false≢true (sym (gone h v e q) ∙ j)) in
                  subst (λ x. x < v) (sym same) (less_than k v low apart)
            ]
      ]

  rising_now : (h : ℕ) → Rising (λ u. u) (row_in more h)
  rising_now h =
      elim (cases_eq h t) as (λ _. Rising (λ u. u) (row_in more h)) [
        | inr ne ↦ subst (λ (xs : List ℕ). Rising (λ u. u) xs) (sym (other_row h ne)) (rising h)
        | inl e ↦
            subst (λ (xs : List ℕ). Rising (λ u. u) xs) (sym (this_row h e))
            (rising_end (λ u. u) (row_in rows h) k (rising h) (λ x i. order h x k i (subst (λ y. in_set old y k 0 ≡ true) (sym e) here)))
      ]

  pub popped : ((h u x : ℕ) → in_set new h u x ≡ true → in_set first h u x ≡ true) ×
      ((h u : ℕ) → in_set first h u 0 ≡ (holds nat_eq u (row_in more h) || in_set new h u 0))
      × ((h u v : ℕ) → holds nat_eq u (row_in more h) ≡ true → in_set new h v 0 ≡ true → u < v) ×
      ((h : ℕ) → Rising (λ u. u) (row_in more h))
  popped = ((λ h u x e. less h u x (was_in h u x e)), exact_now, order_now, rising_now)
