-- The value of a loop's bound at values of the parameters.
use Rattle.std.specs.Prelude.{ℕ, ℤ, pos, negsuc, ◌+ℤ◌, ◌*ℤ◌, ◌≤ℤ◌, ◌≤◌, ◌<◌, ◌^◌, List, [], ◌∷◌, length, All, Option, Some, None, slice_get, unwrap_or, unsigned_abs}
use Rattle.std.specs.Int.{int_div_euclid}
use Rattle.wsym_terms.specs.Extents.{Extent, Finite, Infinite, lesser}
use Rattle.wsym_terms.specs.declared.costs.Cost.{Cost}
use Rattle.wsym_terms.specs.declared.costs.Cost.TheVariants.{Fin, Unbounded}
use Rattle.wsym_terms.specs.declared.bounds.Coef.{Coef}
use Rattle.wsym_terms.specs.declared.bounds.Atom.{Atom}
use Rattle.wsym_terms.specs.declared.bounds.Bound.{Bound}

-- the factors times the values of their parameters, added up
abbrev pub linear_sum : List Coef → List ℤ → ℤ
linear_sum [] values = pos 0
linear_sum (c ∷ cs) values = (c.factor *ℤ unwrap_or (slice_get values c.param) (pos 0)) +ℤ linear_sum cs values

-- what is below 0 counts as 0
abbrev pub at_least_zero : ℤ → ℕ
at_least_zero (pos n) = n
at_least_zero (negsuc n) = 0

-- max(0, floor((a·p + b) / d) + 1)
abbrev pub atom_value : List ℤ → Atom → ℕ
atom_value values atom = at_least_zero (int_div_euclid (linear_sum atom.coefs values +ℤ atom.constant) atom.divisor +ℤ pos 1)

-- the least value of the atoms; without atoms there is none
abbrev pub least_atom : List ℤ → List Atom → Extent
least_atom values [] = Infinite
least_atom values (a ∷ atoms) = lesser (Finite (atom_value values a)) (least_atom values atoms)

abbrev pub bound_value : Bound → List ℤ → Extent
bound_value bound values = least_atom values bound.atoms

-- a number of turns, if one is known
abbrev pub turns_of : Option ℕ → Extent
turns_of None = Infinite
turns_of (Some n) = Finite n

-- the same as a cost
abbrev pub exact_cost : Extent → Cost
exact_cost (Finite n) = Fin n
exact_cost Infinite = Unbounded

-- a factor of one of the first n parameters, of a magnitude of at most 2 ^ 90
pub record CoefFits (parameters : ℕ) (coef : Coef) : Type 0 where
  pub known : coef.param < parameters
  pub factor : unsigned_abs coef.factor ≤ 2 ^ 90

-- at most 13 parameters, factors and a constant of a magnitude of at most 2 ^ 90, and a divisor of at least 1
pub record AtomFits (parameters : ℕ) (atom : Atom) : Type 0 where
  pub few : length atom.coefs ≤ 13
  pub coefs : All (CoefFits parameters) atom.coefs
  pub constant : unsigned_abs atom.constant ≤ 2 ^ 90
  pub positive : pos 1 ≤ℤ atom.divisor
