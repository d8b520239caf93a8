-- Numbers, taken out of a set from the least on.
use Rattle.std.proofs.Common.{◌≡◌, refl, sym, ap, ◌∙◌, subst, ℕ, ◌<◌, ◌≤◌, inl, inr, Bool, true, false, List, [], ◌∷◌, ◌++◌, arith, nat_eq, ◌||◌}
use Rattle.std.specs.Prelude.{◌≢◌, cond}
use Rattle.std.specs.Ordering.{is_gt, nat_cmp}
use Rattle.std.specs.BTreeMap.{is_at}
use Rattle.std.specs.BTreeSet as set
use Rattle.std.specs.BTreeSet.{BTreeSet}
use Rattle.std.proofs.lemmas.Bool.{or_cases, eqb-true, eq-eqb, false≢true}
use Rattle.std.proofs.lemmas.Bool.Decides.{nat_tests}
use Rattle.graph_search.specs.NodeLists.{holds}
use Rattle.graph_search.specs.Orders.{Rising}
use Rattle.graph_search.proofs.OrderLemmas.{rising_end}
use Rattle.graph_search.proofs.RowLemmas.{holds_end}
use Rattle.level_tables.proofs.EdgeRowLemmas.{number_at}

least_le : (k q : ℕ) → is_gt (nat_cmp k q) ≡ false → k ≤ q
least_le k q h = grind (arith, nat_tests)

apart_less : (k q : ℕ) → k ≤ q → q ≢ k → k < q
apart_less k q l ne = grind arith

module _ (first old new : BTreeSet ℕ) (k : ℕ) (member : set.contains nat_cmp old k ≡ true)
    (least : (q : ℕ) → set.contains nat_cmp old q ≡ true → is_gt (nat_cmp k q) ≡ false)
    (updates : (q : ℕ) → set.contains nat_cmp new q ≡ cond (is_at (nat_cmp k) q) false (set.contains nat_cmp old q))
    (xs ys : List ℕ) (more : ys ≡ xs ++ k ∷ [])
    (exact : (u : ℕ) → set.contains nat_cmp first u ≡ (holds nat_eq u xs || set.contains nat_cmp old u))
    (order : (u v : ℕ) → holds nat_eq u xs ≡ true → set.contains nat_cmp old v ≡ true → u < v) (rising : Rising (λ u. u) xs) where
  change : (q : ℕ) → set.contains nat_cmp new q ≡ cond (nat_eq q k) false (set.contains nat_cmp old q)
  change q = updates q ∙ ap (λ b. cond b false (set.contains nat_cmp old q)) (number_at k q)

  was_in : (q : ℕ) → set.contains nat_cmp new q ≡ true → (set.contains nat_cmp old q ≡ true) × (q ≢ k)
  was_in q e = by_test (nat_eq q k) refl
    where
      by_test : (b : Bool) → nat_eq q k ≡ b → (set.contains nat_cmp old q ≡ true) × (q ≢ k)
      by_test true t = absurd (false≢true (sym (change q ∙ ap (λ b. cond b false (set.contains nat_cmp old q)) t) ∙ e))
      by_test false t =
          (sym (change q ∙ ap (λ b. cond b false (set.contains nat_cmp old q)) t) ∙ e, λ s. false≢true (sym t ∙ eq-eqb q k s))

  listed : (u : ℕ) → holds nat_eq u ys ≡ (nat_eq u k || holds nat_eq u xs)
  listed u = ap (holds nat_eq u) more ∙ holds_end u k xs

  pub exact_now : (u : ℕ) → set.contains nat_cmp first u ≡ (holds nat_eq u ys || set.contains nat_cmp new u)
  exact_now u = exact u ∙ by_test (nat_eq u k) refl
    where
      bits : (h c : Bool) → (h || c) ≡ ((false || h) || c)
      bits true c = refl
      bits false c = refl

      whole : (h : Bool) → (h || true) ≡ true
      whole true = refl
      whole false = refl

      by_test : (b : Bool) → nat_eq u k ≡ b
          → (holds nat_eq u xs || set.contains nat_cmp old u) ≡ (holds nat_eq u ys || set.contains nat_cmp new u)
      by_test true t =
          ap (λ b. holds nat_eq u xs || b) (ap (set.contains nat_cmp old) (eqb-true u k t) ∙ member) ∙ (whole (holds nat_eq u xs)
          ∙ sym (ap (λ b. b || set.contains nat_cmp new u) (listed u ∙ ap (λ b. b || holds nat_eq u xs) t)))
      by_test false t =
          bits (holds nat_eq u xs) (set.contains nat_cmp old u)
          ∙ (ap (λ b. (b || holds nat_eq u xs) || set.contains nat_cmp old u) (sym t)
          ∙ (ap (λ b. b || set.contains nat_cmp old u) (sym (listed u))
          ∙ ap (λ b. holds nat_eq u ys || b) (sym (change u ∙ ap (λ b. cond b false (set.contains nat_cmp old u)) t))))

  pub order_now : (u v : ℕ) → holds nat_eq u ys ≡ true → set.contains nat_cmp new v ≡ true → u < v
  order_now u v i j =
      let w = was_in v j in
      elim (or_cases (nat_eq u k) (holds nat_eq u xs) (sym (listed u) ∙ i)) as (λ _. u < v) [
        | inl s ↦ subst (λ x. x < v) (sym (eqb-true u k s)) (apart_less k v (least_le k v (least v w.0)) w.1)
        | inr o ↦ order u v o w.0
      ]

  pub rising_now : Rising (λ u. u) ys
  rising_now = subst (λ zs. Rising (λ u. u) zs) (sym more) (rising_end (λ u. u) xs k rising (λ x i. order x k i member))
