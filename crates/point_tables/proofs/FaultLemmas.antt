-- The least fault of a list that grows.
use Rattle.point_tables.specs.declared.faults.FoundFault.{FoundFault}
use Rattle.std.proofs.Common.{◌≡◌, refl, sym, ap, ◌∙◌, subst, ℕ, ◌+◌, ◌<◌, ◌≤◌, inl, inr, true, false, List, [], ◌∷◌, ◌++◌, length}
use Rattle.std.proofs.Common.{get_or, take, arith}
use Rattle.std.specs.Prelude.{Contains, Option, Some, None, ◌==◌, cond, nat_lt}
use Rattle.std.proofs.lemmas.Bool.{cases_Bool, cond-true, cond-false, false≢true, eqb-true}
use Rattle.std.proofs.lemmas.Bool.Decides.{nat_tests}
use Rattle.std.proofs.lemmas.List.{map-append, get_or_default}
use Rattle.std.proofs.lemmas.List.Elements.{Contains-append_left, Contains-push, Contains-push_cases}
use Rattle.std.proofs.lemmas.Option.{slice_get-get_or}
use Rattle.std.proofs.Math.Numerals.{add-one}
use Rattle.graph_search.proofs.SearchLemmas.{take_next}
use Rattle.control_flow.specs.declared.control.Fault.{Fault}
use Rattle.control_flow.specs.Points.{Point}
use Rattle.point_tables.specs.Faults.{fault_number, NotAfter, comes_first, IsLeastOf}
use Rattle.function_points.specs.PointLists.{point_at, points_at}
use Rattle.function_points.proofs.MemberLemmas.{in_none}

lower : (a b : ℕ) → nat_lt a b ≡ true → a < b
lower a b e = grind (arith, nat_tests, e)

not_lower : (a b : ℕ) → nat_lt a b ≡ false → b ≤ a
not_lower a b e = grind (arith, nat_tests, e)

not_same : (k j : ℕ) → (k == j) ≡ false → j ≤ k → j < k
not_same k j e l = grind (arith, nat_tests, e, l)

first_before : (k a j b : ℕ) → (cond (k == j) (nat_lt a b) (nat_lt k j)) ≡ true → NotAfter k a j b
first_before k a j b e =
    elim (cases_Bool (k == j)) as (λ _. NotAfter k a j b) [
      | inl t ↦ let l = lower a b (sym (cond-true (k == j) (nat_lt a b) (nat_lt k j) t) ∙ e) in inr (eqb-true k j t, omega (arith, l))
      | inr f ↦ inl (lower k j (sym (cond-false (k == j) (nat_lt a b) (nat_lt k j) f) ∙ e))
    ]

not_before : (k a j b : ℕ) → (cond (k == j) (nat_lt a b) (nat_lt k j)) ≡ false → NotAfter j b k a
not_before k a j b e =
    elim (cases_Bool (k == j)) as (λ _. NotAfter j b k a) [
      | inl t ↦ inr (sym (eqb-true k j t), not_lower a b (sym (cond-true (k == j) (nat_lt a b) (nat_lt k j) t) ∙ e))
      | inr f ↦ inl (not_same k j f (not_lower k j (sym (cond-false (k == j) (nat_lt a b) (nat_lt k j) f) ∙ e)))
    ]

through : (k a j b l c : ℕ) → NotAfter k a j b → NotAfter j b l c → NotAfter k a l c
through k a j b l c x y =
    elim x as (λ _. NotAfter k a l c) [
      | inl m ↦
          elim y as (λ _. NotAfter k a l c) [
            | inl n ↦ inl (omega (arith, m, n))
            | inr n ↦ inl (subst (λ z. k < z) n.0 m)
          ]
      | inr m ↦
          elim y as (λ _. NotAfter k a l c) [
            | inl n ↦ inl (subst (λ z. z < l) (sym m.0) n)
            | inr n ↦ let u = m.1 in let v = n.1 in inr (m.0 ∙ n.0, omega (arith, u, v))
          ]
    ]

itself : (k a : ℕ) → NotAfter k a k a
itself k a = inr (refl, omega arith)

module _ (faults : Point → Option Fault) (ps : List Point) (p : Point) where
  one_fault : (f g : Fault) (o : Option Fault) → o ≡ Some f → o ≡ Some g → f ≡ g
  one_fault f g o a b = cc

  no_fault : (f : Fault) (o : Option Fault) → o ≡ None → o ≡ Some f → ⊥
  no_fault f o a b = cc

  pub least_none : (found : Option FoundFault) → faults p ≡ None → IsLeastOf faults ps found → IsLeastOf faults (ps ++ p ∷ []) found
  least_none None e w =
      λ q i.
      elim (Contains-push_cases ps p q i) as (λ _. faults q ≡ None) [
        | inl m ↦ w q m
        | inr s ↦ subst (λ z. faults z ≡ None) s e
      ]
  least_none (Some x) e w =
      record {
        at = w.at;
        there = Contains-append_left ps (p ∷ []) w.at w.there;
        is = w.is;
        address = w.address;
        least = λ q f i g.
            elim (Contains-push_cases ps p q i) as (λ _. NotAfter (fault_number x.fault) x.address (fault_number f) q.address) [
              | inl m ↦ w.least q f m g
              | inr s ↦ absurd (no_fault f (faults p) e (subst (λ z. faults z ≡ Some f) (sym s) g))
            ];
      }

  pub least_first : (found : Option FoundFault) (f : Fault) (a : ℕ) → faults p ≡ Some f → p.address ≡ a → comes_first found f a ≡ true
      → IsLeastOf faults ps found → IsLeastOf faults (ps ++ p ∷ []) (Some (record { fault = f; address = a }))
  least_first found f a e d c w =
      record {
        at = p;
        there = Contains-push ps p;
        is = e;
        address = d;
        least = λ q g i h.
            elim (Contains-push_cases ps p q i) as (λ _. NotAfter (fault_number f) a (fault_number g) q.address) [
              | inl m ↦ before found c w q g m h
              | inr s ↦
                  let same : f ≡ g = one_fault f g (faults p) e (subst (λ z. faults z ≡ Some g) (sym s) h) in
                  subst (λ z. NotAfter (fault_number f) a (fault_number z) q.address) same
                  (subst (λ z. NotAfter (fault_number f) a (fault_number f) z) (sym d ∙ ap (λ (z : Point). z.address) s)
                  (itself (fault_number f) a))
            ];
      }
    where
      before : (found : Option FoundFault) → comes_first found f a ≡ true → IsLeastOf faults ps found → (q : Point) (g : Fault)
          → Contains ps q → faults q ≡ Some g → NotAfter (fault_number f) a (fault_number g) q.address
      before None c w q g m h = absurd (no_fault g (faults q) (w q m) h)
      before (Some x) c w q g m h =
          through (fault_number f) a (fault_number x.fault) x.address (fault_number g) q.address
          (first_before (fault_number f) a (fault_number x.fault) x.address c) (w.least q g m h)

  pub least_stays : (found : Option FoundFault) (f : Fault) (a : ℕ) → faults p ≡ Some f → p.address ≡ a → comes_first found f a ≡ false
      → IsLeastOf faults ps found → IsLeastOf faults (ps ++ p ∷ []) found
  least_stays None f a e d c w = absurd (false≢true (sym c))
  least_stays (Some x) f a e d c w =
      record {
        at = w.at;
        there = Contains-append_left ps (p ∷ []) w.at w.there;
        is = w.is;
        address = w.address;
        least = λ q g i h.
            elim (Contains-push_cases ps p q i) as (λ _. NotAfter (fault_number x.fault) x.address (fault_number g) q.address) [
              | inl m ↦ w.least q g m h
              | inr s ↦
                  let same : f ≡ g = one_fault f g (faults p) e (subst (λ z. faults z ≡ Some g) (sym s) h) in
                  subst (λ z. NotAfter (fault_number x.fault) x.address (fault_number z) q.address) same
                  (subst (λ z. NotAfter (fault_number x.fault) x.address (fault_number f) z) (sym d ∙ ap (λ (z : Point). z.address) s)
                  (not_before (fault_number f) a (fault_number x.fault) x.address c))
            ];
      }

pub no_faults : (faults : Point → Option Fault) (ps : List Point) → ps ≡ [] → IsLeastOf faults ps None
no_faults faults ps e = λ q i. absurd (in_none q (subst (λ zs. Contains zs q) e i))

pub points_next : (ls : List (List ℕ)) (ns : List (ℕ × ℕ)) (at : ℕ) (d : ℕ × ℕ) → at < length ns
    → points_at ls (take (at + 1) ns) ≡ points_at ls (take at ns) ++ point_at ls (get_or ns at d) ∷ []
points_next ls ns at d l =
    ap (λ n. points_at ls (take n ns)) (add-one at) ∙ ap (points_at ls) (take_next ns at (get_or ns at d) (slice_get-get_or ns at d l))
    ∙ map-append (point_at ls) (take at ns) (get_or ns at d ∷ [])

pub pair_in : (ns : List (ℕ × ℕ)) (at : ℕ) (d : ℕ × ℕ) → at < length ns → Contains ns (get_or ns at d)
pair_in ns at d l = (at, l, get_or_default ns at (get_or ns at d) d l)
