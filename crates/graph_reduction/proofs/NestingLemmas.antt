-- Loops are entered by their headers and nested.
use Rattle.std.proofs.Common.{◌≡◌, refl, sym, ◌∙◌, subst, ℕ, zero, suc, ◌≤◌, ◌⊎◌, inl, inr, Bool, true, arith}
use Rattle.std.specs.Prelude.{◌≢◌}
use Rattle.std.proofs.lemmas.Bool.{cases_eq, cases_Bool}
use Rattle.graph_search.specs.Walks.{Walk, Reached, aside, Avoids, Passes}
use Rattle.graph_search.proofs.WalkLemmas.{in_front, weaker, before_point, after_point, avoids_end, avoids_joined, passes_itself}
use Rattle.graph_search.proofs.WalkLemmas.{passes_antisym}
use Rattle.graph_reduction.specs.Loops.{stays, ClosesLoops, InLoop, IsWithin, AreNested}

-- a walk leads to no other points than one without closing edges
pub without_closing : (E : ℕ → ℕ → Type 0) (closed : ℕ → ℕ → Bool) (entry : ℕ) → ((u h : ℕ) → closed u h ≡ true → Passes E entry h u) →
    (k x n : ℕ) → n ≤ k → Walk E entry x n → Reached (stays E closed) entry x
without_closing E closed entry passed k x zero le w = (0, w)
without_closing E closed entry passed zero x (suc n) le w = absurd (omega (arith, le))
without_closing E closed entry passed (suc k) x (suc n) le w =
    elim (cases_Bool (closed w.0 x)) as (λ _. Reached (stays E closed) entry x) [
      | inl t ↦
          elim (before_point E x entry w.0 n w.1) as (λ _. Reached (stays E closed) entry x) [
            | inl r ↦ without_closing E closed entry passed k x r.0 (omega (arith, le, r.1)) r.2
            | inr r ↦ absurd (passed w.0 x t n r)
          ]
      | inr f ↦
          let r = without_closing E closed entry passed k w.0 n (omega (arith, le)) w.1 in
          (suc r.0, (w.0, r.1, (w.2, f)))
    ]

module _ (E : ℕ → ℕ → Type 0) (closed : ℕ → ℕ → Bool) (entry : ℕ) (c : ClosesLoops E closed entry) where
  pub loop_passes : (h x : ℕ) → InLoop E closed h x → Passes E entry h x
  loop_passes h x i =
      elim i as (λ _. Passes E entry h x) [
        | inl e ↦ subst (λ y. Passes E entry h y) (sym e) (passes_itself E entry h)
        | inr w ↦ λ n a. let r = avoids_joined E h entry x w.0 n w.1 a w.3 in c.passed w.0 h w.2 r.0 r.1
      ]

  loop_entered : (h u x : ℕ) → InLoop E closed h x → E u x → x ≢ h → InLoop E closed h u
  loop_entered h u x i e ne =
      elim (cases_eq u h) as (λ _. InLoop E closed h u) [
        | inl s ↦ inl s
        | inr d ↦
            elim i as (λ _. InLoop E closed h u) [
              | inl s ↦ absurd (ne s)
              | inr w ↦ let r = in_front (aside E h) u x w.0 w.1 (e, ne) w.3.1 in inr (w.0, r.0, w.2, (d, r.1))
            ]
      ]

  edge_closes : (h u : ℕ) → Reached E entry u → Passes E entry h u → E u h → closed u h ≡ true
  edge_closes h u r p e =
      elim (cases_Bool (closed u h)) as (λ _. closed u h ≡ true) [
        | inl t ↦ t
        | inr f ↦
            let w = without_closing E closed entry c.passed r.0 u r.0 (omega arith) r.1 in
            elim (after_point (stays E closed) h entry u w.0 w.1) as (λ _. closed u h ≡ true) [
              | inl s ↦ absurd (c.ends h s.0 (u, s.1, (e, f)))
              | inr s ↦ absurd (p w.0 (s.0, weaker (aside (stays E closed) h) (aside E h) (λ a b d. (d.0.0, d.1)) entry u w.0 s.1))
            ]
      ]

  -- the header of one of two loops with a common block is in the other
  header_inside : (h k x n : ℕ) → Walk E entry x n → InLoop E closed h x → InLoop E closed k x → InLoop E closed h k ⊎ InLoop E closed k h
  header_inside h k x zero w i j =
      elim (cases_eq x h) as (λ _. InLoop E closed h k ⊎ InLoop E closed k h) [
        | inl e ↦ inr (subst (λ y. InLoop E closed k y) e j)
        | inr d ↦ absurd (loop_passes h x i 0 ((λ e. d (sym w ∙ e)), w))
      ]
  header_inside h k x (suc n) w i j =
      elim (cases_eq x h) as (λ _. InLoop E closed h k ⊎ InLoop E closed k h) [
        | inl e ↦ inr (subst (λ y. InLoop E closed k y) e j)
        | inr d ↦
            elim (cases_eq x k) as (λ _. InLoop E closed h k ⊎ InLoop E closed k h) [
              | inl e ↦ inl (subst (λ y. InLoop E closed h y) e i)
              | inr d' ↦ header_inside h k w.0 n w.1 (loop_entered h w.0 x i w.2 d) (loop_entered k w.0 x j w.2 d')
            ]
      ]

  -- a loop whose header is in another lies in that one
  pub header_takes : (h k n : ℕ) → Walk E entry k n → InLoop E closed h k → IsWithin E closed k h
  header_takes h k n w i x j =
      elim (cases_eq k h) as (λ _. InLoop E closed h x) [
        | inl same ↦ subst (λ y. InLoop E closed y x) same j
        | inr d ↦
            elim i as (λ _. InLoop E closed h x) [
              | inl e ↦ absurd (d e)
              | inr v ↦
                  elim j as (λ _. InLoop E closed h x) [
                    | inl e ↦ inr (v.0, v.1, v.2, subst (λ y. Avoids E h y v.0 v.1) (sym e) v.3)
                    | inr u ↦
                        elim (after_point (aside E k) h x u.0 u.1 u.3.1) as (λ _. InLoop E closed h x) [
                          | inl r ↦
                              absurd (passes_antisym E entry h k (λ e. d (sym e)) (loop_passes h k i)
                              (loop_passes k h (inr (u.0, r.0, u.2, ((λ e. d (sym e)), r.1)))) n n (omega arith) w)
                          | inr r ↦
                              let back : Avoids E h x u.0 u.1 = (
                                r.0,
                                weaker (aside (aside E k) h) (aside E h)
                                    (λ a b t. (t.0.0, t.1)) x u.0 u.1 r.1,
                              ) in
                              let over = avoids_joined E h x u.0 k u.1 1 back
                              (avoids_end E h x u.0 u.1 back, (u.0, refl, (c.edges u.0 k u.2, d))) in
                              let whole = avoids_joined E h x k v.0 over.0 v.1 over.1 v.3 in
                              inr (v.0, whole.0, v.2, whole.1)
                        ]
                  ]
            ]
      ]

  -- the header is reached, where a block of its loop is
  header_reached : (h x : ℕ) → Reached E entry x → InLoop E closed h x → Reached E entry h
  header_reached h x r i =
      elim (before_point E h entry x r.0 r.1) as (λ _. Reached E entry h) [
        | inl p ↦ (p.0, p.2)
        | inr p ↦ absurd (loop_passes h x i r.0 p)
      ]

  pub are_nested : AreNested E closed entry
  are_nested =
      record {
        passes = loop_passes;
        entered = loop_entered;
        closing = edge_closes;
        nested = λ h k x r i j.
            elim (header_inside h k x r.0 r.1 i j) as (λ _. IsWithin E closed h k ⊎ IsWithin E closed k h) [
              | inl a ↦ let w = header_reached k x r j in inr (header_takes h k w.0 w.1 a)
              | inr b ↦ let w = header_reached h x r i in inl (header_takes k h w.0 w.1 b)
            ];
      }
