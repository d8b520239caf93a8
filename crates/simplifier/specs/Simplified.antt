-- What the simplifier says of constants, node by node.
use Rattle.std.specs.Prelude.{◌≡◌, ℕ, ◌<◌, ◌≤◌, List, [], ◌∷◌, length, map, get_or, Option, None, Some, Bool, true, false, ◌&&◌, if◌then◌else◌, nat_lt, ◌^◌, ◌-◌, ◌==◌, slice_get, pos, ◌≤ℤ◌, unsigned_abs}
use Rattle.wsym_terms.specs.Costs.{cost_of}
use Rattle.wsym_terms.specs.Extents.{Extent, Finite, Infinite}
use Rattle.wsym_terms.specs.Bounds.{bound_value}
use Rattle.wsym_terms.specs.declared.bounds.Coef.{Coef}
use Rattle.wsym_terms.specs.declared.bounds.Atom.{Atom}
use Rattle.wsym_terms.specs.declared.bounds.Bound.{Bound}
use Rattle.cost_multiset.specs.CostLists.{CostList, descends, place, places, prefix_sum}
use Rattle.cost_multiset.specs.Gathered.{all_counted, list_of}
use Rattle.wsym_formula.specs.declared.terms.Term.{Term}
use Rattle.wsym_formula.specs.declared.terms.Term.TheVariants as t
use Rattle.wsym_formula.specs.declared.nodes.Node.{Node}
use Rattle.wsym_formula.specs.declared.nodes.Node.TheVariants as n
use Rattle.wsym_formula.specs.Tables.{term_at}
use Rattle.simplifier.specs.Normal.{all_descend, all_places, constant, flat, normal_alt, normal_sum, once_of, power_of, scaled_of, summed, united}

-- the numbers of a node's summands, and of its choices, where the node has the number `at`
abbrev pub numbers_in : ℕ → Node → List ℕ
numbers_in at (n.Sum members) = members
numbers_in at (n.Const c) = at ∷ []
numbers_in at (n.Alt choices) = at ∷ []
numbers_in at (n.Power id body) = at ∷ []
numbers_in at (n.Once body) = at ∷ []
numbers_in at (n.Scaled id body) = at ∷ []

abbrev pub choices_in : ℕ → Node → List ℕ
choices_in at (n.Alt choices) = choices
choices_in at (n.Const c) = at ∷ []
choices_in at (n.Sum members) = at ∷ []
choices_in at (n.Power id body) = at ∷ []
choices_in at (n.Once body) = at ∷ []
choices_in at (n.Scaled id body) = at ∷ []

abbrev pub places_if : Option CostList → ℕ
places_if None = 0
places_if (Some c) = places c.runs

abbrev pub descends_if : Option CostList → Bool
descends_if None = true
descends_if (Some c) = descends c.runs c.tail

-- a list with the sums of some lists, and one with their descending union
pub record IsSummed (lists : List CostList) (costs : CostList) : Type 0 where
  pub same : (k : ℕ) → place costs k ≡ summed lists k
  pub few : places costs.runs ≤ all_places lists

pub record IsUnited (lists : List CostList) (costs : CostList) : Type 0 where
  pub same : (k : ℕ) → place costs k ≡ united lists k
  pub few : places costs.runs ≤ all_places lists
  pub down : all_descend lists ≡ true

-- what some lists are together, where there are any
abbrev pub IsJointly : (List CostList → CostList → Type 0) → List CostList → Option CostList → Type 0
IsJointly Is lists None = lists ≡ []
IsJointly Is lists (Some c) = (0 < length lists) × Is lists c

-- the constants of a sum, or of an Alt, as the one that stands first
abbrev pub some_if : Bool → CostList → Option CostList
some_if true c = Some c
some_if false c = None

abbrev pub leading_sum : List CostList → Option CostList
leading_sum [] = None
leading_sum (c ∷ lists) = some_if (all_counted (list_of (all_places (c ∷ lists)) (summed (c ∷ lists)))) (list_of (all_places (c ∷ lists)) (summed (c ∷ lists)))

abbrev pub leading_union : List CostList → Option CostList
leading_union [] = None
leading_union (c ∷ lists) = some_if (all_descend (c ∷ lists) && nat_lt (all_places (c ∷ lists)) (2 ^ 63)) (list_of (all_places (c ∷ lists)) (united (c ∷ lists)))

abbrev pub led_given : Option CostList → List Term → List Term → List Term
led_given None rest all = all
led_given (Some c) rest all = t.Const c ∷ rest

-- the first place of a constant, and its first places together
abbrev pub first_as_flat : Option CostList → Option CostList
first_as_flat None = None
first_as_flat (Some c) = Some (flat (place c 0))

abbrev pub prefix_as_flat : ℕ → Option CostList → Option CostList
prefix_as_flat by None = None
prefix_as_flat by (Some c) = some_if (all_counted (flat (cost_of (prefix_sum c by)))) (flat (cost_of (prefix_sum c by)))

-- the normal form of a node over the normal forms of the nodes before it
abbrev pub normal_node : (ℕ → Option ℕ) → List Term → Node → Term
normal_node known terms (n.Const c) = t.Const c
normal_node known terms (n.Sum members) = normal_sum (map (term_at terms) members)
normal_node known terms (n.Alt choices) = normal_alt (map (term_at terms) choices)
normal_node known terms (n.Power id body) = power_of id (term_at terms body) (known id) (constant (term_at terms body))
normal_node known terms (n.Once body) = once_of (term_at terms body) (constant (term_at terms body))
normal_node known terms (n.Scaled id body) = scaled_of id (term_at terms body) (known id) (constant (term_at terms body))

abbrev pub picked : List ℕ → List ℕ → List ℕ
picked numbers [] = []
picked numbers (m ∷ members) = get_or numbers m 0 ∷ picked numbers members

-- the value of a bound that has an atom and whose atoms have no parameter
abbrev pub has_none : List Coef → Bool
has_none coefs = length coefs == 0

-- an atom's constant and divisor, which all bounds of a formula have
pub record IsPlain (atom : Atom) : Type 0 where
  pub constant : unsigned_abs atom.constant ≤ 2 ^ 90
  pub positive : pos 1 ≤ℤ atom.divisor

abbrev pub are_fixed : List Atom → Bool
are_fixed [] = true
are_fixed (a ∷ atoms) = has_none a.coefs && are_fixed atoms

abbrev pub number_of : Extent → Option ℕ
number_of Infinite = None
number_of (Finite m) = Some m

abbrev pub known_in : Bound → Option ℕ
known_in bound = if are_fixed bound.atoms then number_of (bound_value bound []) else None

abbrev pub known_if : Option Bound → Option ℕ
known_if None = None
known_if (Some bound) = known_in bound

-- by the loop's number from 1
abbrev pub known_of : List Bound → ℕ → Option ℕ
known_of bounds id = known_if (slice_get bounds (id - 1))
