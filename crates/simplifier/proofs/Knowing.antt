-- Bounds whose atoms have no parameter.
use Rattle.std.proofs.Common.{◌≡◌, ℕ, ℤ, pos, zero, suc, ◌-◌, ◌<◌, ◌+ℤ◌, Bool, true, false, if◌then◌else◌, List, [], ◌∷◌, length, get_or, Option, Some, None, slice_get, refl, sym, ap, subst, ◌∙◌, arith}
use Rattle.std.specs.List.{All}
use Rattle.std.proofs.lemmas.List.Elements.{All-nil}
use Rattle.std.proofs.lemmas.Bool.Decides.{nat_tests}
use Rattle.std.specs.Int.{int_div_euclid}
use Rattle.cost_multiset.proofs.PlaceLaws.{and_left, and_right, if_true, if_false}
use Rattle.wsym_terms.specs.Extents.{Extent, Finite, Infinite, lesser}
use Rattle.wsym_terms.specs.Bounds.{AtomFits, CoefFits, at_least_zero, atom_value, bound_value, exact_cost, least_atom, linear_sum}
use Rattle.wsym_terms.specs.declared.costs.Cost.{Cost}
use Rattle.wsym_terms.specs.declared.costs.Cost.TheVariants.{Fin, Beyond, Unbounded}
use Rattle.wsym_terms.specs.declared.bounds.Coef.{Coef}
use Rattle.wsym_terms.specs.declared.bounds.Atom.{Atom}
use Rattle.wsym_terms.specs.declared.bounds.Bound.{Bound}
use Rattle.wsym_formula.specs.Values.{bound_at, value_if}
use Rattle.simplifier.specs.Simplified.{IsPlain, are_fixed, has_none, known_if, known_in, known_of, number_of}

pub number_given : (c : Cost) (m : ℕ) (e : Extent) → c ≡ Fin m → c ≡ exact_cost e → Some m ≡ number_of e
number_given c m e is h = by e (sym is ∙ h)
  where
    by : (e : Extent) → Fin m ≡ exact_cost e → Some m ≡ number_of e
    by (Finite k) h = cc
    by Infinite h = absurd (cc)

pub no_number : (c : Cost) (e : Extent) → c ≡ Unbounded → c ≡ exact_cost e → None ≡ number_of e
no_number c e is h = by e (sym is ∙ h)
  where
    by : (e : Extent) → Unbounded ≡ exact_cost e → None ≡ number_of e
    by (Finite k) h = absurd (cc)
    by Infinite h = refl

pub not_beyond : (c : Cost) (e : Extent) → c ≡ Beyond → c ≡ exact_cost e → None ≡ number_of e
not_beyond c e is h = by e (sym is ∙ h)
  where
    by : (e : Extent) → Beyond ≡ exact_cost e → None ≡ number_of e
    by (Finite k) h = absurd (cc)
    by Infinite h = absurd (cc)

no_coefs : (coefs : List Coef) → has_none coefs ≡ true → coefs ≡ []
no_coefs [] h = refl
no_coefs (c ∷ coefs) h = absurd (grind (arith, nat_tests))

one_fits : (a : Atom) → has_none a.coefs ≡ true → IsPlain a → AtomFits 0 a
one_fits a h p =
    let none : a.coefs ≡ [] = no_coefs a.coefs h in
    record {
      few = omega (arith, ap length none);
      coefs = subst (λ (l : List Coef). All (CoefFits 0) l) (sym none) (All-nil (CoefFits 0));
      constant = p.constant;
      positive = p.positive;
    }

fixed_at : (atoms : List Atom) (k : ℕ) (d : Atom) → are_fixed atoms ≡ true → k < length atoms → has_none (get_or atoms k d).coefs ≡ true
fixed_at [] k d h lt = absurd (omega (arith, lt))
fixed_at (a ∷ atoms) zero d h lt = and_left (has_none a.coefs) (are_fixed atoms) h
fixed_at (a ∷ atoms) (suc k) d h lt = fixed_at atoms k d (and_right (has_none a.coefs) (are_fixed atoms) h) (omega (arith, lt))

pub fixed_fit : (atoms : List Atom) → are_fixed atoms ≡ true → All IsPlain atoms → All (AtomFits 0) atoms
fixed_fit atoms h p k d lt = one_fits (get_or atoms k d) (fixed_at atoms k d h lt) (p k d lt)

pub known_fixed : (b : Bound) (o : Option ℕ) → are_fixed b.atoms ≡ true → o ≡ number_of (bound_value b []) → o ≡ known_in b
known_fixed b o h e = e ∙ sym (if_true (are_fixed b.atoms) (number_of (bound_value b [])) None h)

pub known_free : (b : Bound) → are_fixed b.atoms ≡ false → None ≡ known_in b
known_free b h = sym (if_false (are_fixed b.atoms) (number_of (bound_value b [])) None h)

-- what is known holds for all values of the parameters
same_atom : (values : List ℤ) (a : Atom) → has_none a.coefs ≡ true → atom_value values a ≡ atom_value [] a
same_atom values a h =
    let none : a.coefs ≡ [] = no_coefs a.coefs h in
    ap (λ (l : List Coef). at_least_zero (int_div_euclid (linear_sum l values +ℤ a.constant) a.divisor +ℤ pos 1)) none
    ∙ sym (ap (λ (l : List Coef). at_least_zero (int_div_euclid (linear_sum l [] +ℤ a.constant) a.divisor +ℤ pos 1)) none)

same_least : (values : List ℤ) (atoms : List Atom) → are_fixed atoms ≡ true → least_atom values atoms ≡ least_atom [] atoms
same_least values [] h = refl
same_least values (a ∷ atoms) h =
    λ i. lesser (Finite (same_atom values a (and_left (has_none a.coefs) (are_fixed atoms) h) i)) (same_least values atoms (and_right (has_none a.coefs) (are_fixed atoms) h) i)

known_value : (values : List ℤ) (b : Bound) (m : ℕ) → known_in b ≡ Some m → bound_value b values ≡ Finite m
known_value values b m e = by (are_fixed b.atoms) refl e
  where
    only : (x : Extent) → number_of x ≡ Some m → x ≡ Finite m
    only Infinite h = absurd (cc)
    only (Finite k) h = cc

    by : (t : Bool) → are_fixed b.atoms ≡ t → (if t then number_of (bound_value b []) else None) ≡ Some m → bound_value b values ≡ Finite m
    by true f h = same_least values b.atoms f ∙ only (bound_value b []) h
    by false f h = absurd (cc)

pub known_agrees : (bounds : List Bound) (values : List ℤ) (id m : ℕ) → known_of bounds id ≡ Some m → bound_at bounds values id ≡ Finite m
known_agrees bounds values id m e = by (slice_get bounds (id - 1)) e
  where
    by : (o : Option Bound) → known_if o ≡ Some m → value_if o values ≡ Finite m
    by None h = absurd (cc)
    by (Some b) h = known_value values b m h

-- bounds that have a value for a number of parameters
pub all_plain : (parameters : ℕ) (bounds : List Bound) → All (λ (b : Bound). All (AtomFits parameters) b.atoms) bounds → All (λ (b : Bound). All IsPlain b.atoms) bounds
all_plain parameters bounds h = λ k b lt j a inner. let f = h k b lt j a inner in record { constant = f.constant; positive = f.positive }
