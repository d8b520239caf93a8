-- Normal forms have no more counts than their terms.
use Rattle.std.proofs.Common.{◌≡◌, ℕ, zero, suc, ◌+◌, ◌^◌, ◌≤◌, ◌++◌, Bool, true, false, ◌&&◌, nat_lt, if◌then◌else◌, List, [], ◌∷◌, map, Option, Some, None, refl, sym, ap, subst, ◌∙◌, arith}
use Rattle.std.proofs.lemmas.List.{map-append}
use denote.Hole.Holds.{Such}
use Rattle.wsym_terms.specs.Costs.{cost_of}
use Rattle.wsym_terms.specs.declared.costs.Cost.{Cost}
use Rattle.wsym_terms.specs.declared.costs.Cost.TheVariants.{Fin}
use Rattle.cost_multiset.specs.declared.costs.Run.{Run}
use Rattle.cost_multiset.specs.CostLists.{CostList, grouped, place, places, prefix_sum}
use Rattle.cost_multiset.specs.Equality.{same_cost}
use Rattle.cost_multiset.specs.Gathered.{all_counted, gathered, in_front, list_groups, list_of}
use Rattle.wsym_formula.specs.Values.{counts_of, zero_costs, level_counts, total}
use Rattle.simplifier.specs.Normal.{all_descend, all_places, alone_alt, alone_sum, choices, choices_of, constant, constant_of, constants, flat, flattened, is_zero, kept_if, led_if, level_normal, normal, normal_alt, normal_sum, once_of, others, power_of, scaled_of, summands, summands_of, summed, sums_first, united, unions_first, unless_constant, with_constant, without_zero}
use Rattle.wsym_formula.specs.declared.terms.Term.{Term, fold-roll-Term, fold_out-Term, out-Term, roll-Term, ind-Term}
use Rattle.wsym_formula.specs.declared.terms.Term.TheOpen.{Term-F}
use Rattle.wsym_formula.specs.declared.terms.Term.TheOpen.Term-F.{Const, Sum, Alt, Power, Once, Scaled}
use Rattle.wsym_formula.specs.declared.terms.Term.TheBlock.{the_family, member-Term}
use Rattle.wsym_formula.specs.declared.terms.Term.TheFolds.{claims, map-Term}
use Rattle.wsym_formula.specs.declared.terms.Term.TheVariants as t
use Rattle.wsym_formula.proofs.Valuing.{counts_open}

abbrev C : Term → ℕ
C = counts_of

abbrev T : List Term → ℕ
T us = total (map counts_of us)

at_out : (u : Term) → C u ≡ level_counts (map-Term Term ℕ C (out-Term u))
at_out u = fold_out-Term ℕ level_counts u

total_append : (xs ys : List ℕ) → total (xs ++ ys) ≡ total xs + total ys
total_append [] ys = omega arith
total_append (x ∷ xs) ys = omega (arith, total_append xs ys)

T_append : (us ws : List Term) → T (us ++ ws) ≡ T us + T ws
T_append us ws = ap total (map-append C us ws) ∙ total_append (map C us) (map C ws)

summands_by : (u : Term) (y : Term-F Term) → C u ≡ level_counts (map-Term Term ℕ C y) → T (summands_of u y) ≡ C u
summands_by u (Sum us) h = sym h
summands_by u (Const c) h = omega arith
summands_by u (Alt us) h = omega arith
summands_by u (Power id w) h = omega arith
summands_by u (Once w) h = omega arith
summands_by u (Scaled id w) h = omega arith

choices_by : (u : Term) (y : Term-F Term) → C u ≡ level_counts (map-Term Term ℕ C y) → T (choices_of u y) ≡ C u
choices_by u (Alt us) h = sym h
choices_by u (Const c) h = omega arith
choices_by u (Sum us) h = omega arith
choices_by u (Power id w) h = omega arith
choices_by u (Once w) h = omega arith
choices_by u (Scaled id w) h = omega arith

flat_sum : (us : List Term) → T (flattened summands us) ≡ T us
flat_sum [] = refl
flat_sum (u ∷ us) = omega (arith, T_append (summands u) (flattened summands us), summands_by u (out-Term u) (at_out u), flat_sum us)

flat_alt : (us : List Term) → T (flattened choices us) ≡ T us
flat_alt [] = refl
flat_alt (u ∷ us) = omega (arith, T_append (choices u) (flattened choices us), choices_by u (out-Term u) (at_out u), flat_alt us)

split_by : (u : Term) (y : Term-F Term) (cs : List CostList) (rest : List Term) → C u ≡ level_counts (map-Term Term ℕ C y)
    → all_places (with_constant (constant_of y) cs) + T (unless_constant (constant_of y) u rest) ≡ C u + (all_places cs + T rest)
split_by u (Const c) cs rest h = omega (arith, h)
split_by u (Sum us) cs rest h = omega arith
split_by u (Alt us) cs rest h = omega arith
split_by u (Power id w) cs rest h = omega arith
split_by u (Once w) cs rest h = omega arith
split_by u (Scaled id w) cs rest h = omega arith

split_is : (us : List Term) → all_places (constants us) + T (others us) ≡ T us
split_is [] = refl
split_is (u ∷ us) = omega (arith, split_by u (out-Term u) (constants us) (others us) (at_out u), split_is us)

front_few : (v : Cost) (runs : List Run) (tail : Cost) → places (in_front v runs tail) ≤ suc (places runs)
front_few v [] tail = by (same_cost tail v)
  where
    by : (x : Bool) → places (if x then [] else record { value = v; count = 1 } ∷ []) ≤ suc 0
    by true = omega arith
    by false = omega arith
front_few v (r ∷ runs) tail = by (same_cost r.value v)
  where
    by : (x : Bool) → places (if x then record { value = r.value; count = suc r.count } ∷ runs else record { value = v; count = 1 } ∷ r ∷ runs) ≤ suc (r.count + places runs)
    by true = omega arith
    by false = omega arith

gathered_few : (n : ℕ) (f : ℕ → Cost) (tail : Cost) → places (gathered n f tail) ≤ n
gathered_few zero f tail = omega arith
gathered_few (suc n) f tail = omega (arith, front_few (f 0) (gathered n (λ k. f (suc k)) tail) tail, gathered_few n (λ k. f (suc k)) tail)

const_counts : (c : CostList) → C (t.Const c) ≡ places c.runs
const_counts c = counts_open (Term-F.Const c) (t.Const c) (t.rolls-Const c)

led_few : (x : Bool) (c : CostList) (rest all : List Term) → places c.runs + T rest ≤ T all → T (led_if x c rest all) ≤ T all
led_few true c rest all h = omega (arith, h, const_counts c)
led_few false c rest all h = omega arith

sums_few : (cs : List CostList) (rest all : List Term) → all_places cs + T rest ≡ T all → T (sums_first cs rest all) ≤ T all
sums_few [] rest all h = omega arith
sums_few (c ∷ cs) rest all h =
    let n : ℕ = all_places (c ∷ cs) in
    let f : ℕ → Cost = summed (c ∷ cs) in
    led_few (all_counted (list_of n f)) (list_of n f) rest all (omega (arith, h, gathered_few n f (f n)))

unions_few : (cs : List CostList) (rest all : List Term) → all_places cs + T rest ≡ T all → T (unions_first cs rest all) ≤ T all
unions_few [] rest all h = omega arith
unions_few (c ∷ cs) rest all h =
    let n : ℕ = all_places (c ∷ cs) in
    let f : ℕ → Cost = united (c ∷ cs) in
    led_few (all_descend (c ∷ cs) && nat_lt n (2 ^ 63)) (list_of n f) rest all (omega (arith, h, gathered_few n f (f n)))

dropped_few : (us : List Term) → T (without_zero us) ≤ T us
dropped_few [] = omega arith
dropped_few (u ∷ []) = omega arith
dropped_few (u ∷ w ∷ us) = by (is_zero (constant u))
  where
    by : (x : Bool) → T (if x then w ∷ us else u ∷ w ∷ us) ≤ T (u ∷ w ∷ us)
    by true = omega arith
    by false = omega arith

sum_counts : (us : List Term) → C (t.Sum us) ≡ T us
sum_counts us = counts_open (Term-F.Sum us) (t.Sum us) (t.rolls-Sum us)

alt_counts : (us : List Term) → C (t.Alt us) ≡ T us
alt_counts us = counts_open (Term-F.Alt us) (t.Alt us) (t.rolls-Alt us)

alone_sum_few : (us : List Term) → C (alone_sum us) ≤ T us
alone_sum_few [] = omega (arith, const_counts zero_costs)
alone_sum_few (u ∷ []) = omega arith
alone_sum_few (u ∷ w ∷ us) = omega (arith, sum_counts (u ∷ w ∷ us))

alone_alt_few : (us : List Term) → C (alone_alt us) ≤ T us
alone_alt_few [] = omega (arith, alt_counts [])
alone_alt_few (u ∷ []) = omega arith
alone_alt_few (u ∷ w ∷ us) = omega (arith, alt_counts (u ∷ w ∷ us))

normal_sum_few : (us : List Term) → C (normal_sum us) ≤ T us
normal_sum_few us =
    let all : List Term = flattened summands us in
    let led : List Term = sums_first (constants all) (others all) all in
    omega (arith, alone_sum_few (without_zero led), dropped_few led, sums_few (constants all) (others all) all (split_is all), flat_sum us)

normal_alt_few : (us : List Term) → C (normal_alt us) ≤ T us
normal_alt_few us =
    let all : List Term = flattened choices us in
    let led : List Term = unions_first (constants all) (others all) all in
    omega (arith, alone_alt_few led, unions_few (constants all) (others all) all (split_is all), flat_alt us)

once_few : (u : Term) (o : Option CostList) → C (once_of u o) ≤ C u
once_few u None = omega (arith, counts_open (Term-F.Once u) (t.Once u) (t.rolls-Once u))
once_few u (Some c) = omega (arith, const_counts (flat (place c 0)))

power_counts : (id : ℕ) (u : Term) → C (t.Power id u) ≡ C u
power_counts id u = counts_open (Term-F.Power id u) (t.Power id u) (t.rolls-Power id u)

scaled_counts : (id : ℕ) (u : Term) → C (t.Scaled id u) ≡ C u
scaled_counts id u = counts_open (Term-F.Scaled id u) (t.Scaled id u) (t.rolls-Scaled id u)

constant_by : (u : Term) (c : CostList) (y : Term-F Term) → C u ≡ level_counts (map-Term Term ℕ C y) → constant_of y ≡ Some c → C u ≡ places c.runs
constant_by u c (Const d) h e = h ∙ ap (λ (x : CostList). places x.runs) (inner d c e)
  where
    inner : (d c : CostList) → ◌≡◌ {A = Option CostList} (Some d) (Some c) → d ≡ c
    inner d c e = cc
constant_by u c (Sum us) h e = absurd (cc)
constant_by u c (Alt us) h e = absurd (cc)
constant_by u c (Power id w) h e = absurd (cc)
constant_by u c (Once w) h e = absurd (cc)
constant_by u c (Scaled id w) h e = absurd (cc)

power_few : (id : ℕ) (u : Term) (x : Option ℕ) (o : Option CostList) → constant u ≡ o → C (power_of id u x o) ≤ C u
power_few id u None o e = omega (arith, power_counts id u)
power_few id u (Some b) None e = omega (arith, power_counts id u)
power_few id u (Some b) (Some c) e = by (all_counted (list_groups (Fin b) c))
  where
    g : CostList
    g = list_groups (Fin b) c

    by : (x : Bool) → C (kept_if x g (t.Power id u)) ≤ C u
    by true = omega (arith, const_counts g, gathered_few (places c.runs) (grouped (Fin b) (place c)) g.tail, constant_by u c (out-Term u) (at_out u) e)
    by false = omega (arith, power_counts id u)

scaled_few : (id : ℕ) (u : Term) (x : Option ℕ) (o : Option CostList) → C (scaled_of id u x o) ≤ C u
scaled_few id u None o = omega (arith, scaled_counts id u)
scaled_few id u (Some b) None = omega (arith, scaled_counts id u)
scaled_few id u (Some b) (Some c) = by (all_counted (flat (cost_of (prefix_sum c b))))
  where
    s : CostList
    s = flat (cost_of (prefix_sum c b))

    by : (x : Bool) → C (kept_if x s (t.Scaled id u)) ≤ C u
    by true = omega (arith, const_counts s)
    by false = omega (arith, scaled_counts id u)

module _ (known : ℕ → Option ℕ) where
  abbrev N : Term → Term
  N = normal known

  abbrev Few : Term → Type 0
  Few u = C (N u) ≤ C u

  abbrev Known : Type 0
  Known = Such the_family (claims Few) member-Term

  all_few : (ys : List Known) → T (map N (map (λ e. e.0) ys)) ≤ T (map (λ e. e.0) ys)
  all_few [] = omega arith
  all_few (y ∷ ys) = omega (arith, y.1, all_few ys)

  at_level : (y : Term-F Known) → C (level_normal known (map-Term Term Term N (map-Term Known Term (λ e. e.0) y))) ≤ level_counts (map-Term Term ℕ C (map-Term Known Term (λ e. e.0) y))
  at_level (Const c) = omega (arith, const_counts c)
  at_level (Sum ys) = omega (arith, normal_sum_few (map N (map (λ e. e.0) ys)), all_few ys)
  at_level (Alt ys) = omega (arith, normal_alt_few (map N (map (λ e. e.0) ys)), all_few ys)
  at_level (Power id y) = omega (arith, power_few id (N y.0) (known id) (constant (N y.0)) refl, y.1)
  at_level (Once y) = omega (arith, once_few (N y.0) (constant (N y.0)), y.1)
  at_level (Scaled id y) = omega (arith, scaled_few id (N y.0) (known id) (constant (N y.0)), y.1)

  one_level : (y : Term-F Known) → Few (roll-Term (map-Term Known Term (λ e. e.0) y))
  one_level y =
      omega (arith, ap C (fold-roll-Term Term (level_normal known) (map-Term Known Term (λ e. e.0) y)), at_level y, fold-roll-Term ℕ level_counts (map-Term Known Term (λ e. e.0) y))

  pub normal_few : (u : Term) → Few u
  normal_few u = ind-Term Few (λ x y e. subst (λ (l : Term-F Term). Few (roll-Term l)) e (one_level y)) u
