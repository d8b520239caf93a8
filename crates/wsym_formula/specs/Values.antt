-- Lists of costs that stand for terms, and for members of a node.
use Rattle.std.specs.Prelude.{◌≡◌, ℕ, ℤ, ◌+◌, ◌-◌, ◌≤◌, ◌<◌, ◌^◌, List, [], ◌∷◌, map, length, get_or, Option, Some, None, slice_get}
use Rattle.wsym_terms.specs.Extents.{Extent, Infinite}
use Rattle.wsym_terms.specs.Costs.{cost_of}
use Rattle.wsym_terms.specs.Bounds.{bound_value}
use Rattle.wsym_terms.specs.declared.costs.Cost.TheVariants.{Fin}
use Rattle.wsym_terms.specs.declared.bounds.Bound.{Bound}
use Rattle.cost_multiset.specs.CostLists.{CostList, places, prefix_sum}
use Rattle.wsym_formula.specs.declared.terms.Term.{Term, fold-Term}
use Rattle.wsym_formula.specs.declared.terms.Term.TheOpen.{Term-F}
use Rattle.wsym_formula.specs.declared.terms.Term.TheOpen.Term-F.{Const, Sum, Alt, Power, Once, Scaled}
use Rattle.wsym_formula.specs.declared.nodes.Node.{Node}
use Rattle.wsym_formula.specs.declared.nodes.Node.TheVariants as n
use Rattle.wsym_formula.specs.Tables.{term_at}
use Rattle.wsym_formula.specs.Terms.{term_value, sum_at, shared_at}

-- `sum` of std folds from the left and stops at a variable
abbrev pub total : List ℕ → ℕ
total [] = 0
total (m ∷ ms) = m + total ms

-- the counts of all constants
abbrev pub level_counts : Term-F ℕ → ℕ
level_counts (Const costs) = places costs.runs
level_counts (Sum members) = total members
level_counts (Alt choices) = total choices
level_counts (Power id body) = body
level_counts (Once body) = body
level_counts (Scaled id body) = body

abbrev pub counts_of : Term → ℕ
counts_of = fold-Term ℕ level_counts

abbrev pub value_if : Option Bound → List ℤ → Extent
value_if None values = Infinite
value_if (Some bound) values = bound_value bound values

-- the bound of a loop, by its number from 1; a loop that isn't there has none
abbrev pub bound_at : List Bound → List ℤ → ℕ → Extent
bound_at bounds values id = value_if (slice_get bounds (id - 1)) values

-- the first n costs of a list cost what n executions of a term do, as far as a cost says
pub record Stands (bounds : ℕ → Extent) (costs : CostList) (term : Term) : Type 0 where
  pub cost : (n : ℕ) → cost_of (term_value bounds term n) ≡ cost_of (prefix_sum costs n)
  pub few : places costs.runs ≤ counts_of term

abbrev pub AllStand : (ℕ → Extent) → List CostList → List Term → Type 0
AllStand bounds [] [] = Unit {0}
AllStand bounds [] (t ∷ terms) = ⊥
AllStand bounds (v ∷ values) [] = ⊥
AllStand bounds (v ∷ values) (t ∷ terms) = Stands bounds v t × AllStand bounds values terms

abbrev pub zero_costs : CostList
zero_costs = record { runs = []; tail = Fin 0 }

abbrev pub costs_at : List CostList → ℕ → CostList
costs_at values m = get_or values m zero_costs

abbrev pub prefixes : List CostList → List ℕ → List (ℕ → Extent)
prefixes values [] = []
prefixes values (m ∷ members) = prefix_sum (costs_at values m) ∷ prefixes values members

abbrev pub places_at : List CostList → List ℕ → ℕ
places_at values [] = 0
places_at values (m ∷ members) = places (costs_at values m).runs + places_at values members

-- a list of costs that is made of those of some members
pub record IsMade (parts : List (ℕ → Extent) → ℕ → Extent) (values : List CostList) (members : List ℕ) (costs : CostList) : Type 0 where
  pub cost : (n : ℕ) → cost_of (parts (prefixes values members) n) ≡ cost_of (prefix_sum costs n)
  pub few : places costs.runs ≤ places_at values members

-- the members of a node have fewer than 2 ^ 63 places together
abbrev pub HasRoom : List CostList → Node → Type 0
HasRoom values (n.Const costs) = Unit {0}
HasRoom values (n.Sum members) = places_at values members < 2 ^ 63
HasRoom values (n.Alt choices) = places_at values choices < 2 ^ 63
HasRoom values (n.Power id body) = Unit {0}
HasRoom values (n.Once body) = Unit {0}
HasRoom values (n.Scaled id body) = Unit {0}

-- each term of a list has counts below 2 ^ 63
abbrev pub AllFew : List Term → Type 0
AllFew terms = (k : ℕ) → k < length terms → counts_of (term_at terms k) < 2 ^ 63
