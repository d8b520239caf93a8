-- The normal form of a term, where `known` gives the bounds of loops whose atoms have no parameter.
use Rattle.std.specs.Prelude.{ℕ, ◌+◌, ◌^◌, ◌++◌, Bool, true, false, ◌&&◌, nat_lt, if◌then◌else◌, List, [], ◌∷◌, Option, None, Some}
use Rattle.wsym_terms.specs.Costs.{cost_of, sum_of}
use Rattle.wsym_terms.specs.declared.costs.Cost.{Cost}
use Rattle.wsym_terms.specs.declared.costs.Cost.TheVariants.{Fin}
use Rattle.cost_multiset.specs.CostLists.{CostList, descends, place, places, prefix_sum, merged}
use Rattle.cost_multiset.specs.Equality.{same_lists}
use Rattle.cost_multiset.specs.Gathered.{all_counted, list_groups, list_of}
use Rattle.wsym_formula.specs.declared.terms.Term.{Term, fold-Term, out-Term}
use Rattle.wsym_formula.specs.declared.terms.Term.TheOpen.{Term-F}
use Rattle.wsym_formula.specs.declared.terms.Term.TheOpen.Term-F.{Const, Sum, Alt, Power, Once, Scaled}
use Rattle.wsym_formula.specs.declared.terms.Term.TheVariants as t
use Rattle.wsym_formula.specs.Values.{zero_costs}
use Rattle.wsym_formula.specs.declared.nodes.Node.{Node}
use Rattle.wsym_formula.specs.declared.nodes.Node.TheVariants as n

-- the members of a sum, and any other term alone
abbrev pub summands_of : Term → Term-F Term → List Term
summands_of term (Sum members) = members
summands_of term (Const c) = term ∷ []
summands_of term (Alt choices) = term ∷ []
summands_of term (Power id body) = term ∷ []
summands_of term (Once body) = term ∷ []
summands_of term (Scaled id body) = term ∷ []

abbrev pub summands : Term → List Term
summands term = summands_of term (out-Term term)

abbrev pub choices_of : Term → Term-F Term → List Term
choices_of term (Alt choices) = choices
choices_of term (Const c) = term ∷ []
choices_of term (Sum members) = term ∷ []
choices_of term (Power id body) = term ∷ []
choices_of term (Once body) = term ∷ []
choices_of term (Scaled id body) = term ∷ []

abbrev pub choices : Term → List Term
choices term = choices_of term (out-Term term)

abbrev pub flattened : (Term → List Term) → List Term → List Term
flattened parts [] = []
flattened parts (term ∷ terms) = parts term ++ flattened parts terms

abbrev pub constant_of : Term-F Term → Option CostList
constant_of (Const c) = Some c
constant_of (Sum members) = None
constant_of (Alt choices) = None
constant_of (Power id body) = None
constant_of (Once body) = None
constant_of (Scaled id body) = None

abbrev pub constant : Term → Option CostList
constant term = constant_of (out-Term term)

abbrev pub with_constant : Option CostList → List CostList → List CostList
with_constant None lists = lists
with_constant (Some c) lists = c ∷ lists

abbrev pub unless_constant : Option CostList → Term → List Term → List Term
unless_constant None term terms = term ∷ terms
unless_constant (Some c) term terms = terms

-- the constants among some terms, and the other ones
abbrev pub constants : List Term → List CostList
constants [] = []
constants (term ∷ terms) = with_constant (constant term) (constants terms)

abbrev pub others : List Term → List Term
others [] = []
others (term ∷ terms) = unless_constant (constant term) term (others terms)

abbrev pub all_places : List CostList → ℕ
all_places [] = 0
all_places (c ∷ lists) = places c.runs + all_places lists

-- the sums and the descending union of lists, place by place
abbrev pub summed : List CostList → ℕ → Cost
summed [] k = Fin 0
summed (c ∷ lists) k = sum_of (place c k) (summed lists k)

abbrev pub united : List CostList → ℕ → Cost
united [] k = Fin 0
united (c ∷ []) k = place c k
united (c ∷ d ∷ lists) k = merged (place c) (united (d ∷ lists)) k

-- as the lists of each formula do
abbrev pub all_descend : List CostList → Bool
all_descend [] = true
all_descend (c ∷ lists) = descends c.runs c.tail && all_descend lists

-- the constants as one that stands first, where it may
abbrev pub led_if : Bool → CostList → List Term → List Term → List Term
led_if true c rest all = t.Const c ∷ rest
led_if false c rest all = all

abbrev pub sums_first : List CostList → List Term → List Term → List Term
sums_first [] rest all = all
sums_first (c ∷ lists) rest all = let s = list_of (all_places (c ∷ lists)) (summed (c ∷ lists)) in led_if (all_counted s) s rest all

abbrev pub unions_first : List CostList → List Term → List Term → List Term
unions_first [] rest all = all
unions_first (c ∷ lists) rest all = led_if (all_descend (c ∷ lists) && nat_lt (all_places (c ∷ lists)) (2 ^ 63)) (list_of (all_places (c ∷ lists)) (united (c ∷ lists))) rest all

abbrev pub is_zero : Option CostList → Bool
is_zero None = false
is_zero (Some c) = same_lists c zero_costs

-- a first 0 beside others is dropped
abbrev pub without_zero : List Term → List Term
without_zero [] = []
without_zero (term ∷ []) = term ∷ []
without_zero (term ∷ next ∷ terms) = if is_zero (constant term) then next ∷ terms else term ∷ next ∷ terms

abbrev pub alone_sum : List Term → Term
alone_sum [] = t.Const zero_costs
alone_sum (term ∷ []) = term
alone_sum (term ∷ next ∷ terms) = t.Sum (term ∷ next ∷ terms)

abbrev pub alone_alt : List Term → Term
alone_alt [] = t.Alt []
alone_alt (term ∷ []) = term
alone_alt (term ∷ next ∷ terms) = t.Alt (term ∷ next ∷ terms)

abbrev pub normal_sum : List Term → Term
normal_sum terms = let all = flattened summands terms in alone_sum (without_zero (sums_first (constants all) (others all) all))

abbrev pub normal_alt : List Term → Term
normal_alt terms = let all = flattened choices terms in alone_alt (unions_first (constants all) (others all) all)

abbrev pub flat : Cost → CostList
flat cost = record { runs = []; tail = cost }

abbrev pub once_of : Term → Option CostList → Term
once_of body None = t.Once body
once_of body (Some c) = t.Const (flat (place c 0))

abbrev pub kept_if : Bool → CostList → Term → Term
kept_if true c term = t.Const c
kept_if false c term = term

abbrev pub power_of : ℕ → Term → Option ℕ → Option CostList → Term
power_of id body None c = t.Power id body
power_of id body (Some b) None = t.Power id body
power_of id body (Some b) (Some c) = let g = list_groups (Fin b) c in kept_if (all_counted g) g (t.Power id body)

abbrev pub scaled_of : ℕ → Term → Option ℕ → Option CostList → Term
scaled_of id body None c = t.Scaled id body
scaled_of id body (Some b) None = t.Scaled id body
scaled_of id body (Some b) (Some c) = let s = flat (cost_of (prefix_sum c b)) in kept_if (all_counted s) s (t.Scaled id body)

abbrev pub level_normal : (ℕ → Option ℕ) → Term-F Term → Term
level_normal known (Const c) = t.Const c
level_normal known (Sum members) = normal_sum members
level_normal known (Alt choices) = normal_alt choices
level_normal known (Power id body) = power_of id body (known id) (constant body)
level_normal known (Once body) = once_of body (constant body)
level_normal known (Scaled id body) = scaled_of id body (known id) (constant body)

abbrev pub normal : (ℕ → Option ℕ) → Term → Term
normal known = fold-Term Term (level_normal known)

-- what a node shows of its meaning: the constant that it is
abbrev pub constant_in : Node → Option CostList
constant_in (n.Const c) = Some c
constant_in (n.Sum members) = None
constant_in (n.Alt choices) = None
constant_in (n.Power id body) = None
constant_in (n.Once body) = None
constant_in (n.Scaled id body) = None

-- the groups of a constant, where none of their costs is 2 ^ 127 or more
abbrev pub counted_groups : ℕ → Option CostList → Option CostList
counted_groups by None = None
counted_groups by (Some c) = if all_counted (list_groups (Fin by) c) then Some (list_groups (Fin by) c) else None

abbrev pub power_if : ℕ → Term → Option CostList → Term
power_if id body None = t.Power id body
power_if id body (Some g) = t.Const g
