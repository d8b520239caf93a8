-- What comes first of several, one after another.
use Rattle.std.proofs.Common.{◌≡◌, refl, sym, ap, ◌∙◌, subst, ℕ, suc, ◌+◌, ◌<◌, ◌≤◌, ◌⊎◌, inl, inr, Bool, true, false, ℤ, pos, ◌≤ℤ◌, List}
use Rattle.std.proofs.Common.{arith}
use Rattle.std.specs.Prelude.{◌==◌, ◌&&◌, ◌||◌, nat_lt, int_lt, Option, Some, None, IfSome, IsSomeAnd, slice_get}
use Rattle.std.proofs.lemmas.Bool.{cases_Bool, cond-false, cond-true}
use Rattle.std.proofs.lemmas.Bool.Decides.{nat_tests}
use Rattle.std.proofs.lemmas.Int.{ints}
use Rattle.std.proofs.Math.Numerals.{add-one}
use Rattle.copy_facts.specs.declared.least.Found.{Found}
use Rattle.std.proofs.lemmas.Bool.{false≢true}
use Rattle.std.proofs.lemmas.Option.{none-some, same_Some}
use Rattle.copy_facts.specs.declared.sites.Site.{Site}
use Rattle.copy_facts.specs.declared.tables.PointFacts.{PointFacts}
use Rattle.copy_facts.specs.Frames.{IsLeastTo, IsOverNumber, IsUnprovedNumber, address_in, lesser, over_in, unproved_in, with_lowest}
use Rattle.copy_facts.specs.Searching.{map_of}

below_next : (j n : ℕ) → j < suc n → (j ≡ n) ⊎ (j < n)
below_next j n h = grind arith

pub least_begins : (P : ℕ → ℤ → Type 0) (A : ℕ → ℕ) → IsLeastTo P A 0 None
least_begins P A = record { there = tt; least = λ i o l p. absurd (omega (arith, l)) }

still_there : (P : ℕ → ℤ → Type 0) (A : ℕ → ℕ) (n : ℕ) (found : Option Found) → IfSome found
    (λ x. (i : ℕ) × (i < n) × P i x.lowest × (A i ≡ x.address))
    → IfSome found (λ x. (i : ℕ) × (i < suc n) × P i x.lowest × (A i ≡ x.address))
still_there P A n None h = tt
still_there P A n (Some x) h = let l = h.1 in (h.0, omega (arith, l), h.2, h.3)

least_passes : (P : ℕ → ℤ → Type 0) (A : ℕ → ℕ) (n : ℕ) (found : Option Found) → IsLeastTo P A n found → ((o : ℤ) → P n o → ⊥)
    → IsLeastTo P A (suc n) found
least_passes P A n found s none = record {
  there = still_there P A n found s.there;
  least = λ i o l p.
      elim (below_next i n l) as (λ _. IsSomeAnd found (λ x. (x.address < A i) ⊎ ((x.address ≡ A i) × (x.lowest ≤ℤ o)))) [
        | inl e ↦ absurd (none o (subst (λ i. P i o) e p))
        | inr b ↦ s.least i o b p
      ];
}

-- before or at the same place
abbrev NotAfter : ℕ → ℤ → ℕ → ℤ → Type 0
NotAfter a z b o = (a < b) ⊎ ((a ≡ b) × (z ≤ℤ o))

itself : (a : ℕ) (z : ℤ) → NotAfter a z a z
itself a z = inr (refl, omega (arith, ints))

comes : (a : ℕ) (z : ℤ) (x : Found) → (nat_lt a x.address || ((a == x.address) && int_lt z x.lowest)) ≡ true → (b : ℕ) (o : ℤ)
    → NotAfter x.address x.lowest b o
    → NotAfter a z b o
comes a z x e b o h = earlier a x.address b z x.lowest o e h where
  earlier : (a c b : ℕ) (z y o : ℤ) → (nat_lt a c || ((a == c) && int_lt z y)) ≡ true → (c < b) ⊎ ((c ≡ b) × (y ≤ℤ o)) → (a < b) ⊎
      ((a ≡ b) × (z ≤ℤ o))
  earlier a c b z y o e h = grind (arith, ints, nat_tests)

stays : (a : ℕ) (z : ℤ) (x : Found) → (nat_lt a x.address || ((a == x.address) && int_lt z x.lowest)) ≡ false
    → NotAfter x.address x.lowest a z
stays a z x e = later a x.address z x.lowest e where
  later : (a c : ℕ) (z y : ℤ) → (nat_lt a c || ((a == c) && int_lt z y)) ≡ false → (c < a) ⊎ ((c ≡ a) × (y ≤ℤ z))
  later a c z y e = grind (arith, ints, nat_tests)

module _ (P : ℕ → ℤ → Type 0) (A : ℕ → ℕ) (n : ℕ) (z : ℤ) (p : P n z) (only : (o : ℤ) → P n o → o ≡ z) where
  abbrev Least : Option Found → Type 0
  Least found = IsLeastTo P A (suc n) found

  first_one : IsLeastTo P A n None → Least (Some (record { address = A n; lowest = z }))
  first_one s = record {
    there = (n, omega arith, p, refl);
    least = λ i o l q.
        elim (below_next i n l) as (λ _. NotAfter (A n) z (A i) o) [
          | inl e ↦
              subst (λ i. NotAfter (A n) z (A i) o) (sym e)
              (subst (λ o. NotAfter (A n) z (A n) o) (sym (only o (subst (λ i. P i o) e q))) (itself (A n) z))
          | inr b ↦ absurd (s.least i o b q)
        ];
  }

  new_one : (x : Found) → IsLeastTo P A n (Some x) → (nat_lt (A n) x.address || ((A n == x.address) && int_lt z x.lowest)) ≡ true
      → Least (Some (record { address = A n; lowest = z }))
  new_one x s e = record {
    there = (n, omega arith, p, refl);
    least = λ i o l q.
        elim (below_next i n l) as (λ _. NotAfter (A n) z (A i) o) [
          | inl same ↦
              subst (λ i. NotAfter (A n) z (A i) o) (sym same)
              (subst (λ o. NotAfter (A n) z (A n) o) (sym (only o (subst (λ i. P i o) same q))) (itself (A n) z))
          | inr b ↦ comes (A n) z x e (A i) o (s.least i o b q)
        ];
  }

  old_one : (x : Found) → IsLeastTo P A n (Some x) → (nat_lt (A n) x.address || ((A n == x.address) && int_lt z x.lowest)) ≡ false → Least
      (Some x)
  old_one x s e = record {
    there = let t = s.there in let l = t.1 in (t.0, omega (arith, l), t.2, t.3);
    least = λ i o l q.
        elim (below_next i n l) as (λ _. NotAfter x.address x.lowest (A i) o) [
          | inl same ↦
              subst (λ i. NotAfter x.address x.lowest (A i) o) (sym same)
              (subst (λ o. NotAfter x.address x.lowest (A n) o) (sym (only o (subst (λ i. P i o) same q))) (stays (A n) z x e))
          | inr b ↦ s.least i o b q
        ];
  }

  least_takes : (found : Option Found) → IsLeastTo P A n found → Least (lesser found (A n) z)
  least_takes None s = first_one s
  least_takes (Some x) s =
      elim (cases_Bool (nat_lt (A n) x.address || ((A n == x.address) && int_lt z x.lowest))) as (λ _. Least (lesser (Some x) (A n) z)) [
        | inl t ↦ subst Least
            (sym (cond-true (nat_lt (A n) x.address || ((A n == x.address) && int_lt z x.lowest))
            (Some (record { address = A n; lowest = z })) (Some x) t)) (new_one x s t)
        | inr f ↦ subst Least
            (sym (cond-false (nat_lt (A n) x.address || ((A n == x.address) && int_lt z x.lowest))
            (Some (record { address = A n; lowest = z })) (Some x) f)) (old_one x s f)
      ]

pub least_skip : (P : ℕ → ℤ → Type 0) (A : ℕ → ℕ) (n : ℕ) (found : Option Found) → IsLeastTo P A n found → ((o : ℤ) → P n o → ⊥)
    → IsLeastTo P A (n + 1) found
least_skip P A n found s none = subst (λ k. IsLeastTo P A k found) (sym (add-one n)) (least_passes P A n found s none)

pub least_on : (P : ℕ → ℤ → Type 0) (A : ℕ → ℕ) (n : ℕ) (found : Option Found) (a : ℕ) (z : ℤ) (next : Option Found) → IsLeastTo P A n found
    → P n z
    → ((o : ℤ) → P n o → o ≡ z) → a ≡ A n → next ≡ lesser found a z → IsLeastTo P A (n + 1) next
least_on P A n found a z next s p only here is =
    subst (λ k. IsLeastTo P A k next) (sym (add-one n))
    (subst (IsLeastTo P A (suc n)) (sym (is ∙ ap (λ b. lesser found b z) here)) (least_takes P A n z p only found s))

-- ---- accesses below the stack's bytes

module _ (stack : ℕ) (sites : List Site) (facts : List (Option PointFacts)) (at : ℕ) (found : Option Found) (site : Site)
    (here : slice_get sites at ≡ Some site)
    (s : IsLeastTo (IsOverNumber stack sites facts) (λ i. address_in (slice_get sites i)) at found) (r : Option ℤ)
    (is : r ≡ over_in stack (Some site) (map_of facts at)) where
  over_here : over_in stack (slice_get sites at) (map_of facts at) ≡ r
  over_here = ap (λ x. over_in stack x (map_of facts at)) here ∙ sym is

  pub over_skip : r ≡ None → IsLeastTo (IsOverNumber stack sites facts) (λ i. address_in (slice_get sites i)) (at + 1) found
  over_skip e =
      least_skip (IsOverNumber stack sites facts) (λ i. address_in (slice_get sites i)) at found s
      (λ o p. none-some o (sym e ∙ (sym over_here ∙ p)))

  pub over_on : (z : ℤ) (next : Option Found) → r ≡ Some z → next ≡ lesser found site.address z
      → IsLeastTo (IsOverNumber stack sites facts) (λ i. address_in (slice_get sites i)) (at + 1) next
  over_on z next e n =
      least_on (IsOverNumber stack sites facts) (λ i. address_in (slice_get sites i)) at found site.address z next s (over_here ∙ e)
      (λ o p. same_Some o z (sym p ∙ (over_here ∙ e))) (ap address_in (sym here)) n

pub over_next : (stack : ℕ) (sites : List Site) (facts : List (Option PointFacts)) (at : ℕ) (found : Option Found) (site : Site)
    → slice_get sites at ≡ Some site
    → IsLeastTo (IsOverNumber stack sites facts) (λ i. address_in (slice_get sites i)) at found → (r : Option ℤ) → r ≡ over_in stack
    (Some site) (map_of facts at)
    → (next : Option Found) → next ≡ with_lowest found site.address r → IsLeastTo (IsOverNumber stack sites facts)
    (λ i. address_in (slice_get sites i)) (at + 1) next
over_next stack sites facts at found site here s None is next n =
    subst (IsLeastTo (IsOverNumber stack sites facts) (λ i. address_in (slice_get sites i)) (at + 1)) (sym n)
    (over_skip stack sites facts at found site here s None is refl)
over_next stack sites facts at found site here s (Some z) is next n = over_on stack sites facts at found site here s
    (Some z) is z next refl n

-- ---- returns that aren't proved

module _ (sites : List Site) (facts : List (Option PointFacts)) (at : ℕ) (found : Option Found) (site : Site)
    (here : slice_get sites at ≡ Some site)
    (s : IsLeastTo (IsUnprovedNumber sites facts) (λ i. address_in (slice_get sites i)) at found) (r : Bool)
    (is : r ≡ unproved_in (Some site) (map_of facts at)) where
  unproved_here : unproved_in (slice_get sites at) (map_of facts at) ≡ r
  unproved_here = ap (λ x. unproved_in x (map_of facts at)) here ∙ sym is

  pub unproved_skip : r ≡ false → IsLeastTo (IsUnprovedNumber sites facts) (λ i. address_in (slice_get sites i)) (at + 1) found
  unproved_skip e =
      least_skip (IsUnprovedNumber sites facts) (λ i. address_in (slice_get sites i)) at found s
      (λ o p. false≢true (sym e ∙ (sym unproved_here ∙ p.0)))

  pub unproved_on : (next : Option Found) → r ≡ true → next ≡ lesser found site.address (pos 0)
      → IsLeastTo (IsUnprovedNumber sites facts) (λ i. address_in (slice_get sites i)) (at + 1) next
  unproved_on next e n =
      least_on (IsUnprovedNumber sites facts) (λ i. address_in (slice_get sites i)) at found site.address (pos 0) next s
      (unproved_here ∙ e, refl)
      (λ o p. p.1) (ap address_in (sym here)) n

-- all points
pub least_of_all : (P : ℕ → ℤ → Type 0) (A : ℕ → ℕ) (n at : ℕ) (found : Option Found) → IsLeastTo P A at found → at ≤ n → n ≤ at
    → IsLeastTo P A n found
least_of_all P A n at found s l g = subst (λ k. IsLeastTo P A k found) (same n at l g) s where
  same : (n at : ℕ) → at ≤ n → n ≤ at → at ≡ n
  same n at l g = omega (arith, l, g)
