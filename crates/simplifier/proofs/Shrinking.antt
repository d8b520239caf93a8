-- A normal form has no more nodes than its term, and nests no deeper.
use Rattle.std.proofs.Common.{◌≡◌, ℕ, zero, suc, ◌+◌, ◌^◌, ◌<◌, ◌≤◌, ◌++◌, max, Bool, true, false, ◌&&◌, nat_lt, if◌then◌else◌, List, [], ◌∷◌, map, length, Option, Some, None, refl, sym, ap, subst, ◌∙◌, arith}
use Rattle.std.proofs.lemmas.List.{map-append}
use denote.Hole.Holds.{Such}
use Rattle.wsym_terms.specs.Costs.{cost_of}
use Rattle.wsym_terms.specs.declared.costs.Cost.TheVariants.{Fin}
use Rattle.cost_multiset.specs.CostLists.{CostList, place, prefix_sum}
use Rattle.cost_multiset.specs.Gathered.{all_counted, list_groups, list_of}
use Rattle.wsym_formula.specs.Values.{total, zero_costs}
use Rattle.wsym_formula.specs.declared.terms.Term.{Term, fold-roll-Term, fold_out-Term, out-Term, roll-Term, ind-Term}
use Rattle.wsym_formula.specs.declared.terms.Term.TheOpen.{Term-F}
use Rattle.wsym_formula.specs.declared.terms.Term.TheOpen.Term-F.{Const, Sum, Alt, Power, Once, Scaled}
use Rattle.wsym_formula.specs.declared.terms.Term.TheBlock.{the_family, member-Term}
use Rattle.wsym_formula.specs.declared.terms.Term.TheFolds.{claims, map-Term}
use Rattle.wsym_formula.specs.declared.terms.Term.TheVariants as t
use Rattle.simplifier.specs.Normal.{all_descend, all_places, alone_alt, alone_sum, choices, choices_of, constant, constant_of, constants, flat, flattened, is_zero, kept_if, led_if, level_normal, normal, normal_alt, normal_sum, once_of, others, power_of, scaled_of, summands, summands_of, summed, sums_first, united, unions_first, unless_constant, with_constant, without_zero}
use Rattle.wsym_terms.specs.TreeNesting.{most}
use Rattle.simplifier.specs.Sizes.{level_nesting, level_nodes, nesting_of, nodes_of}
use Rattle.simplifier.proofs.TreeSizes.{nesting_open, nodes_open}

-- the nodes of some terms, and how deep the deepest of them nests
abbrev T : List Term → ℕ
T us = total (map nodes_of us)

abbrev D : List Term → ℕ
D us = most (map nesting_of us)

nodes_out : (u : Term) → nodes_of u ≡ level_nodes (map-Term Term ℕ nodes_of (out-Term u))
nodes_out u = fold_out-Term ℕ level_nodes u

nesting_out : (u : Term) → nesting_of u ≡ level_nesting (map-Term Term ℕ nesting_of (out-Term u))
nesting_out u = fold_out-Term ℕ level_nesting u

total_append : (xs ys : List ℕ) → total (xs ++ ys) ≡ total xs + total ys
total_append [] ys = omega arith
total_append (x ∷ xs) ys = omega (arith, total_append xs ys)

most_append : (xs ys : List ℕ) → most (xs ++ ys) ≡ max (most xs) (most ys)
most_append [] ys = omega arith
most_append (x ∷ xs) ys = omega (arith, most_append xs ys)

T_append : (us ws : List Term) → T (us ++ ws) ≡ T us + T ws
T_append us ws = ap total (map-append nodes_of us ws) ∙ total_append (map nodes_of us) (map nodes_of ws)

D_append : (us ws : List Term) → D (us ++ ws) ≡ max (D us) (D ws)
D_append us ws = ap most (map-append nesting_of us ws) ∙ most_append (map nesting_of us) (map nesting_of ws)

-- a term, by what it looks like
record Fits (u : Term) (us : List Term) : Type 0 where
  nodes : T us ≤ nodes_of u
  deep : D us ≤ nesting_of u

alone_fits : (u : Term) → Fits u (u ∷ [])
alone_fits u = record { nodes = omega arith; deep = omega arith }

summands_by : (u : Term) (y : Term-F Term) → nodes_of u ≡ level_nodes (map-Term Term ℕ nodes_of y) → nesting_of u ≡ level_nesting (map-Term Term ℕ nesting_of y) → Fits u (summands_of u y)
summands_by u (Sum us) h k = record { nodes = omega (arith, h); deep = omega (arith, k) }
summands_by u (Const c) h k = alone_fits u
summands_by u (Alt us) h k = alone_fits u
summands_by u (Power id w) h k = alone_fits u
summands_by u (Once w) h k = alone_fits u
summands_by u (Scaled id w) h k = alone_fits u

choices_by : (u : Term) (y : Term-F Term) → nodes_of u ≡ level_nodes (map-Term Term ℕ nodes_of y) → nesting_of u ≡ level_nesting (map-Term Term ℕ nesting_of y) → Fits u (choices_of u y)
choices_by u (Alt us) h k = record { nodes = omega (arith, h); deep = omega (arith, k) }
choices_by u (Const c) h k = alone_fits u
choices_by u (Sum us) h k = alone_fits u
choices_by u (Power id w) h k = alone_fits u
choices_by u (Once w) h k = alone_fits u
choices_by u (Scaled id w) h k = alone_fits u

flat_nodes : (parts : Term → List Term) → ((u : Term) → Fits u (parts u)) → (us : List Term) → T (flattened parts us) ≤ T us
flat_nodes parts h [] = omega arith
flat_nodes parts h (u ∷ us) = omega (arith, T_append (parts u) (flattened parts us), (h u).nodes, flat_nodes parts h us)

flat_deep : (parts : Term → List Term) → ((u : Term) → Fits u (parts u)) → (us : List Term) → D (flattened parts us) ≤ D us
flat_deep parts h [] = omega arith
flat_deep parts h (u ∷ us) = omega (arith, D_append (parts u) (flattened parts us), (h u).deep, flat_deep parts h us)

-- constants have one node each
split_by : (u : Term) (y : Term-F Term) (cs : List CostList) (rest : List Term) → nodes_of u ≡ level_nodes (map-Term Term ℕ nodes_of y)
    → length (with_constant (constant_of y) cs) + T (unless_constant (constant_of y) u rest) ≡ nodes_of u + (length cs + T rest)
split_by u (Const c) cs rest h = omega (arith, h)
split_by u (Sum us) cs rest h = omega arith
split_by u (Alt us) cs rest h = omega arith
split_by u (Power id w) cs rest h = omega arith
split_by u (Once w) cs rest h = omega arith
split_by u (Scaled id w) cs rest h = omega arith

split_is : (us : List Term) → length (constants us) + T (others us) ≡ T us
split_is [] = refl
split_is (u ∷ us) = omega (arith, split_by u (out-Term u) (constants us) (others us) (nodes_out u), split_is us)

others_by : (u : Term) (o : Option CostList) (rest : List Term) → D (unless_constant o u rest) ≤ max (nesting_of u) (D rest)
others_by u None rest = omega arith
others_by u (Some c) rest = omega arith

others_deep : (us : List Term) → D (others us) ≤ D us
others_deep [] = omega arith
others_deep (u ∷ us) = omega (arith, others_by u (constant u) (others us), others_deep us)

one_by : (y : Term-F Term) → 1 ≤ level_nesting (map-Term Term ℕ nesting_of y)
one_by (Const c) = omega arith
one_by (Sum us) = omega arith
one_by (Alt us) = omega arith
one_by (Power id w) = omega arith
one_by (Once w) = omega arith
one_by (Scaled id w) = omega arith

some_deep : (us : List Term) → 0 < length (constants us) → 1 ≤ D us
some_deep [] h = absurd (omega (arith, h))
some_deep (u ∷ us) h = omega (arith, nesting_out u, one_by (out-Term u))

const_nodes : (c : CostList) → nodes_of (t.Const c) ≡ 1
const_nodes c = nodes_open (Term-F.Const c) (t.Const c) (t.rolls-Const c)

const_nesting : (c : CostList) → nesting_of (t.Const c) ≡ 1
const_nesting c = nesting_open (Term-F.Const c) (t.Const c) (t.rolls-Const c)

-- the constants as one
record Leads (all led : List Term) : Type 0 where
  nodes : T led ≤ T all
  deep : D led ≤ D all

led_by : (x : Bool) (c : CostList) (rest all : List Term) → 1 + T rest ≤ T all → 1 ≤ D all → D rest ≤ D all → Leads all (led_if x c rest all)
led_by true c rest all h j k = record { nodes = omega (arith, h, const_nodes c); deep = omega (arith, j, k, const_nesting c) }
led_by false c rest all h j k = record { nodes = omega arith; deep = omega arith }

sums_lead : (cs : List CostList) (rest all : List Term) → length cs + T rest ≡ T all → (0 < length cs → 1 ≤ D all) → D rest ≤ D all → Leads all (sums_first cs rest all)
sums_lead [] rest all h j k = record { nodes = omega arith; deep = omega arith }
sums_lead (c ∷ cs) rest all h j k =
    let s : CostList = list_of (all_places (c ∷ cs)) (summed (c ∷ cs)) in
    led_by (all_counted s) s rest all (omega (arith, h)) (j (omega arith)) k

unions_lead : (cs : List CostList) (rest all : List Term) → length cs + T rest ≡ T all → (0 < length cs → 1 ≤ D all) → D rest ≤ D all → Leads all (unions_first cs rest all)
unions_lead [] rest all h j k = record { nodes = omega arith; deep = omega arith }
unions_lead (c ∷ cs) rest all h j k =
    let s : CostList = list_of (all_places (c ∷ cs)) (united (c ∷ cs)) in
    led_by (all_descend (c ∷ cs) && nat_lt (all_places (c ∷ cs)) (2 ^ 63)) s rest all (omega (arith, h)) (j (omega arith)) k

dropped : (us : List Term) → Leads us (without_zero us)
dropped [] = record { nodes = omega arith; deep = omega arith }
dropped (u ∷ []) = record { nodes = omega arith; deep = omega arith }
dropped (u ∷ w ∷ us) = by (is_zero (constant u))
  where
    by : (x : Bool) → Leads (u ∷ w ∷ us) (if x then w ∷ us else u ∷ w ∷ us)
    by true = record { nodes = omega arith; deep = omega arith }
    by false = record { nodes = omega arith; deep = omega arith }

-- at most one node more than some terms have, and one level more
record IsOver (us : List Term) (u : Term) : Type 0 where
  nodes : nodes_of u ≤ suc (T us)
  deep : nesting_of u ≤ suc (D us)

sum_over : (us : List Term) → IsOver us (t.Sum us)
sum_over us = record { nodes = omega (arith, nodes_open (Term-F.Sum us) (t.Sum us) (t.rolls-Sum us)); deep = omega (arith, nesting_open (Term-F.Sum us) (t.Sum us) (t.rolls-Sum us)) }

alt_over : (us : List Term) → IsOver us (t.Alt us)
alt_over us = record { nodes = omega (arith, nodes_open (Term-F.Alt us) (t.Alt us) (t.rolls-Alt us)); deep = omega (arith, nesting_open (Term-F.Alt us) (t.Alt us) (t.rolls-Alt us)) }

const_over : (us : List Term) (c : CostList) → IsOver us (t.Const c)
const_over us c = record { nodes = omega (arith, const_nodes c); deep = omega (arith, const_nesting c) }

alone_sum_over : (us : List Term) → IsOver us (alone_sum us)
alone_sum_over [] = const_over [] zero_costs
alone_sum_over (u ∷ []) = record { nodes = omega arith; deep = omega arith }
alone_sum_over (u ∷ w ∷ us) = sum_over (u ∷ w ∷ us)

alone_alt_over : (us : List Term) → IsOver us (alone_alt us)
alone_alt_over [] = alt_over []
alone_alt_over (u ∷ []) = record { nodes = omega arith; deep = omega arith }
alone_alt_over (u ∷ w ∷ us) = alt_over (u ∷ w ∷ us)

normal_sum_over : (us : List Term) → IsOver us (normal_sum us)
normal_sum_over us =
    let fits : (u : Term) → Fits u (summands u) = λ u. summands_by u (out-Term u) (nodes_out u) (nesting_out u) in
    let all : List Term = flattened summands us in
    let led : List Term = sums_first (constants all) (others all) all in
    let leads = sums_lead (constants all) (others all) all (split_is all) (some_deep all) (others_deep all) in
    let over = alone_sum_over (without_zero led) in
    record {
      nodes = omega (arith, over.nodes, (dropped led).nodes, leads.nodes, flat_nodes summands fits us);
      deep = omega (arith, over.deep, (dropped led).deep, leads.deep, flat_deep summands fits us);
    }

normal_alt_over : (us : List Term) → IsOver us (normal_alt us)
normal_alt_over us =
    let fits : (u : Term) → Fits u (choices u) = λ u. choices_by u (out-Term u) (nodes_out u) (nesting_out u) in
    let all : List Term = flattened choices us in
    let led : List Term = unions_first (constants all) (others all) all in
    let leads = unions_lead (constants all) (others all) all (split_is all) (some_deep all) (others_deep all) in
    let over = alone_alt_over led in
    record {
      nodes = omega (arith, over.nodes, leads.nodes, flat_nodes choices fits us);
      deep = omega (arith, over.deep, leads.deep, flat_deep choices fits us);
    }

-- the same over one term
record IsAbove (u v : Term) : Type 0 where
  nodes : nodes_of v ≤ suc (nodes_of u)
  deep : nesting_of v ≤ suc (nesting_of u)

const_above : (u : Term) (c : CostList) → IsAbove u (t.Const c)
const_above u c = record { nodes = omega (arith, const_nodes c); deep = omega (arith, const_nesting c) }

power_above : (id : ℕ) (u : Term) → IsAbove u (t.Power id u)
power_above id u = record { nodes = omega (arith, nodes_open (Term-F.Power id u) (t.Power id u) (t.rolls-Power id u)); deep = omega (arith, nesting_open (Term-F.Power id u) (t.Power id u) (t.rolls-Power id u)) }

scaled_above : (id : ℕ) (u : Term) → IsAbove u (t.Scaled id u)
scaled_above id u = record { nodes = omega (arith, nodes_open (Term-F.Scaled id u) (t.Scaled id u) (t.rolls-Scaled id u)); deep = omega (arith, nesting_open (Term-F.Scaled id u) (t.Scaled id u) (t.rolls-Scaled id u)) }

once_is : (u : Term) (o : Option CostList) → IsAbove u (once_of u o)
once_is u None = record { nodes = omega (arith, nodes_open (Term-F.Once u) (t.Once u) (t.rolls-Once u)); deep = omega (arith, nesting_open (Term-F.Once u) (t.Once u) (t.rolls-Once u)) }
once_is u (Some c) = const_above u (flat (place c 0))

kept_is : (x : Bool) (c : CostList) (u v : Term) → IsAbove u v → IsAbove u (kept_if x c v)
kept_is true c u v h = const_above u c
kept_is false c u v h = h

power_is : (id : ℕ) (u : Term) (x : Option ℕ) (o : Option CostList) → IsAbove u (power_of id u x o)
power_is id u None o = power_above id u
power_is id u (Some b) None = power_above id u
power_is id u (Some b) (Some c) = kept_is (all_counted (list_groups (Fin b) c)) (list_groups (Fin b) c) u (t.Power id u) (power_above id u)

scaled_is : (id : ℕ) (u : Term) (x : Option ℕ) (o : Option CostList) → IsAbove u (scaled_of id u x o)
scaled_is id u None o = scaled_above id u
scaled_is id u (Some b) None = scaled_above id u
scaled_is id u (Some b) (Some c) = kept_is (all_counted (flat (cost_of (prefix_sum c b)))) (flat (cost_of (prefix_sum c b))) u (t.Scaled id u) (scaled_above id u)

module _ (known : ℕ → Option ℕ) where
  abbrev N : Term → Term
  N = normal known

  pub record IsNoLarger (u : Term) : Type 0 where
    pub nodes : nodes_of (N u) ≤ nodes_of u
    pub deep : nesting_of (N u) ≤ nesting_of u

  abbrev Known : Type 0
  Known = Such the_family (claims IsNoLarger) member-Term

  all_nodes : (ys : List Known) → T (map N (map (λ e. e.0) ys)) ≤ T (map (λ e. e.0) ys)
  all_nodes [] = omega arith
  all_nodes (y ∷ ys) = omega (arith, y.1.nodes, all_nodes ys)

  all_deep : (ys : List Known) → D (map N (map (λ e. e.0) ys)) ≤ D (map (λ e. e.0) ys)
  all_deep [] = omega arith
  all_deep (y ∷ ys) = omega (arith, y.1.deep, all_deep ys)

  nodes_level : (y : Term-F Known) → nodes_of (level_normal known (map-Term Term Term N (map-Term Known Term (λ e. e.0) y))) ≤ level_nodes (map-Term Term ℕ nodes_of (map-Term Known Term (λ e. e.0) y))
  nodes_level (Const c) = omega (arith, const_nodes c)
  nodes_level (Sum ys) = omega (arith, (normal_sum_over (map N (map (λ e. e.0) ys))).nodes, all_nodes ys)
  nodes_level (Alt ys) = omega (arith, (normal_alt_over (map N (map (λ e. e.0) ys))).nodes, all_nodes ys)
  nodes_level (Power id y) = omega (arith, (power_is id (N y.0) (known id) (constant (N y.0))).nodes, y.1.nodes)
  nodes_level (Once y) = omega (arith, (once_is (N y.0) (constant (N y.0))).nodes, y.1.nodes)
  nodes_level (Scaled id y) = omega (arith, (scaled_is id (N y.0) (known id) (constant (N y.0))).nodes, y.1.nodes)

  deep_level : (y : Term-F Known) → nesting_of (level_normal known (map-Term Term Term N (map-Term Known Term (λ e. e.0) y))) ≤ level_nesting (map-Term Term ℕ nesting_of (map-Term Known Term (λ e. e.0) y))
  deep_level (Const c) = omega (arith, const_nesting c)
  deep_level (Sum ys) = omega (arith, (normal_sum_over (map N (map (λ e. e.0) ys))).deep, all_deep ys)
  deep_level (Alt ys) = omega (arith, (normal_alt_over (map N (map (λ e. e.0) ys))).deep, all_deep ys)
  deep_level (Power id y) = omega (arith, (power_is id (N y.0) (known id) (constant (N y.0))).deep, y.1.deep)
  deep_level (Once y) = omega (arith, (once_is (N y.0) (constant (N y.0))).deep, y.1.deep)
  deep_level (Scaled id y) = omega (arith, (scaled_is id (N y.0) (known id) (constant (N y.0))).deep, y.1.deep)

  one_level : (y : Term-F Known) → IsNoLarger (roll-Term (map-Term Known Term (λ e. e.0) y))
  one_level y =
      let z : Term-F Term = map-Term Known Term (λ e. e.0) y in
      record {
        nodes = omega (arith, ap nodes_of (fold-roll-Term Term (level_normal known) z), nodes_level y, fold-roll-Term ℕ level_nodes z);
        deep = omega (arith, ap nesting_of (fold-roll-Term Term (level_normal known) z), deep_level y, fold-roll-Term ℕ level_nesting z);
      }

  pub no_larger : (u : Term) → IsNoLarger u
  no_larger u = ind-Term IsNoLarger (λ x y e. subst (λ (l : Term-F Term). IsNoLarger (roll-Term l)) e (one_level y)) u
