-- Where walks pass a point.
use Rattle.std.proofs.Common.{◌≡◌, refl, sym, ap, ◌∙◌, subst, ℕ, zero, suc, ◌+◌, ◌<◌, ◌≤◌, ◌⊎◌, inl, inr, arith}
use Rattle.std.specs.Prelude.{◌≢◌}
use Rattle.std.proofs.lemmas.Bool.{cases_eq}
use Rattle.graph_search.specs.Walks.{Walk, Reached, aside, Avoids, Passes}

pub joined : {A : Type 0} (E : A → A → Type 0) (a b c : A) (n m : ℕ) → Walk E a b n → Walk E b c m → Reached E a c
joined E a b c n zero w v = (n, subst (λ x. Walk E a x n) v w)
joined E a b c n (suc m) w v = let r = joined E a b v.0 n m w v.1 in (suc r.0, (v.0, r.1, v.2))

pub in_front : {A : Type 0} (E : A → A → Type 0) (a b c : A) (m : ℕ) → E a b → Walk E b c m → Reached E a c
in_front E a b c m e w = joined E a b c 1 m (a, refl, e) w

pub weaker : {A : Type 0} (E F : A → A → Type 0) → ((u v : A) → E u v → F u v) → (a b : A) (n : ℕ) → Walk E a b n
    → Walk F a b n
weaker E F f a b zero w = w
weaker E F f a b (suc n) w = (w.0, weaker E F f a w.0 n w.1, f w.0 b w.2)

-- what stands before a point on a walk, or the walk avoids it
pub before_point : (E : ℕ → ℕ → Type 0) (v a b n : ℕ) → Walk E a b n → ((m : ℕ) × (m ≤ n) × Walk E a v m)
    ⊎ Avoids E v a b n
before_point E v a b zero w =
    elim (cases_eq a v) as (λ _. ((m : ℕ) × (m ≤ 0) × Walk E a v m) ⊎ Avoids E v a b 0) [
      | inl e ↦ inl (0, omega arith, e)
      | inr ne ↦ inr (ne, w)
    ]
before_point E v a b (suc n) w =
    elim (cases_eq b v) as (λ _. ((m : ℕ) × (m ≤ suc n) × Walk E a v m) ⊎ Avoids E v a b (suc n)) [
      | inl e ↦ inl (suc n, omega arith, subst (λ x. Walk E a x (suc n)) e w)
      | inr ne ↦
          elim (before_point E v a w.0 n w.1) as (λ _. ((m : ℕ) × (m ≤ suc n) × Walk E a v m) ⊎ Avoids E v a b
          (suc n)) [
            | inl p ↦ inl (p.0, omega (arith, p.1), p.2)
            | inr q ↦ inr (q.0, (w.0, q.1, (w.2, ne)))
          ]
    ]

-- what stands after a point on a walk, or the walk avoids it
pub after_point : (E : ℕ → ℕ → Type 0) (v a b n : ℕ) → Walk E a b n → Reached E v b ⊎ Avoids E v a b n
after_point E v a b zero w =
    elim (cases_eq a v) as (λ _. Reached E v b ⊎ Avoids E v a b 0) [
      | inl e ↦ inl (0, sym e ∙ w)
      | inr ne ↦ inr (ne, w)
    ]
after_point E v a b (suc n) w =
    elim (cases_eq b v) as (λ _. Reached E v b ⊎ Avoids E v a b (suc n)) [
      | inl e ↦ inl (0, sym e)
      | inr ne ↦
          elim (after_point E v a w.0 n w.1) as (λ _. Reached E v b ⊎ Avoids E v a b (suc n)) [
            | inl p ↦ inl (suc p.0, (w.0, p.1, w.2))
            | inr q ↦ inr (q.0, (w.0, q.1, (w.2, ne)))
          ]
    ]

-- a walk that avoids a point ends elsewhere
pub avoids_end : {A : Type 0} (E : A → A → Type 0) (h a b : A) (n : ℕ) → Avoids E h a b n → b ≢ h
avoids_end E h a b zero w = subst (λ x. x ≢ h) w.1 w.0
avoids_end E h a b (suc n) w = w.1.2.1

pub avoids_joined : {A : Type 0} (E : A → A → Type 0) (h a b c : A) (n m : ℕ) → Avoids E h a b n → Avoids E h b c m →
    (k : ℕ) × Avoids E h a c k
avoids_joined E h a b c n m w v = let r = joined (aside E h) a b c n m w.1 v.1 in (r.0, (w.0, r.1))

pub avoids_walk : {A : Type 0} (E : A → A → Type 0) (h a b : A) (n : ℕ) → Avoids E h a b n → Walk E a b n
avoids_walk E h a b n w = weaker (aside E h) E (λ u v e. e.0) a b n w.1

-- a point at the end of each walk to itself
pub passes_itself : {A : Type 0} (E : A → A → Type 0) (a b : A) → Passes E a b b
passes_itself E a b n w = avoids_end E b a b n w refl

-- where each walk to b passes v, one that avoids g has before v one that avoids g
pub before_passed : (E : ℕ → ℕ → Type 0) (g v a b n : ℕ) → Passes E a v b → Avoids E g a b n → (m : ℕ) × (m ≤ n)
    × Avoids E g a v m
before_passed E g v a b n p w =
    elim (before_point (aside E g) v a b n w.1) as (λ _. (m : ℕ) × (m ≤ n) × Avoids E g a v m) [
      | inl q ↦ (q.0, q.1, (w.0, q.2))
      | inr q ↦ absurd (p n (q.0, weaker (aside (aside E g) v) (aside E v) (λ u x e. (e.0.0, e.1)) a b n q.1))
    ]

-- two points of which each stands before the other are one
pub passes_antisym : (E : ℕ → ℕ → Type 0) (a g v : ℕ) → g ≢ v → Passes E a g v → Passes E a v g → (k n : ℕ) → n ≤ k
    → Walk E a v n → ⊥
passes_antisym E a g v ne p q zero zero le w = p 0 ((λ e. ne (sym e ∙ w)), w)
passes_antisym E a g v ne p q zero (suc n) le w = absurd (omega (arith, le))
passes_antisym E a g v ne p q (suc k) zero le w = p 0 ((λ e. ne (sym e ∙ w)), w)
passes_antisym E a g v ne p q (suc k) (suc n) le w =
    -- the walk before its last edge passes g, and there v
    elim (before_point E g a w.0 n w.1) as (λ _. ⊥) [
      | inl r ↦
          elim (before_point E v a g r.0 r.2) as (λ _. ⊥) [
            | inl s ↦ passes_antisym E a g v ne p q k s.0 (omega (arith, le, r.1, s.1)) s.2
            | inr s ↦ q r.0 s
          ]
      | inr r ↦ p (suc n) (r.0, (w.0, r.1, (w.2, λ e. ne (sym e))))
    ]
