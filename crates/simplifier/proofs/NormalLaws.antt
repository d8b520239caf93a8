-- The normal form of a term has the term's value.
use Rattle.std.proofs.Common.{◌≡◌, ℕ, zero, suc, ◌*◌, ◌≤◌, ◌++◌, Bool, true, false, if◌then◌else◌, List, [], ◌∷◌, map, Option, Some, None, refl, sym, ap, subst, ◌∙◌, arith, true≢false}
use denote.Hole.Holds.{Such}
use Rattle.wsym_terms.specs.Extents.{Extent, Finite, Infinite, plus, times, if_any}
use Rattle.wsym_terms.specs.Costs.{cost_of, extent_of, sum_of}
use Rattle.wsym_terms.specs.declared.costs.Cost.{Cost}
use Rattle.wsym_terms.specs.declared.costs.Cost.TheVariants.{Fin}
use Rattle.wsym_terms.proofs.ExtentLaws.{plus_assoc, plus_comm, plus_nothing, nothing_plus}
use Rattle.cost_multiset.specs.CostLists.{CostList, place, prefix_sum, sum_first}
use Rattle.cost_multiset.specs.Equality.{lists_decide}
use Rattle.cost_multiset.specs.Gathered.{all_counted, is_counted, list_groups, list_of}
use Rattle.cost_multiset.proofs.SumLaws.{sum_first_same, sum_first_constant}
use Rattle.cost_multiset.proofs.GatherLaws.{list_of_place}
use Rattle.cost_multiset.proofs.CountedLaws.{counted_place, exact, list_groups_exact, part_counted, place_past, sums_exact}
use Rattle.wsym_formula.specs.Terms.{sum_at, shared_at, power_at, scaled_at, level_value, term_value}
use Rattle.wsym_formula.specs.Values.{zero_costs}
use Rattle.simplifier.specs.Normal.{all_places, alone_sum, constant, constant_of, constants, flat, flattened, is_zero, kept_if, led_if, level_normal, normal, normal_alt, normal_sum, once_of, others, power_of, scaled_of, summands, summands_of, summed, sums_first, unless_constant, with_constant, without_zero}
use Rattle.wsym_formula.specs.declared.terms.Term.{Term, fold-roll-Term, fold_out-Term, out-Term, roll-Term, ind-Term}
use Rattle.wsym_formula.specs.declared.terms.Term.TheOpen.{Term-F}
use Rattle.wsym_formula.specs.declared.terms.Term.TheOpen.Term-F.{Const, Sum, Alt, Power, Once, Scaled}
use Rattle.wsym_formula.specs.declared.terms.Term.TheBlock.{the_family, member-Term}
use Rattle.wsym_formula.specs.declared.terms.Term.TheFolds.{claims, map-Term}
use Rattle.wsym_formula.specs.declared.terms.Term.TheVariants as t
use Rattle.wsym_formula.proofs.Valuing.{zero_first, value_alt, value_const, value_once, value_power, value_scaled, value_sum}

-- what constants cost together
abbrev pub costs_of : List CostList → ℕ → Extent
costs_of [] n = Finite 0
costs_of (c ∷ lists) n = plus (prefix_sum c n) (costs_of lists n)

pub any_id : (f : ℕ → Extent) → f 0 ≡ Finite 0 → (n : ℕ) → if_any f n ≡ f n
any_id f h zero = sym h
any_id f h (suc n) = refl

summed_past : (cs : List CostList) (k : ℕ) → all_places cs ≤ k → summed cs k ≡ summed cs (all_places cs)
summed_past [] k le = refl
summed_past (c ∷ cs) k le =
    (λ i. sum_of (place_past c k (omega (arith, le)) i) (summed_past cs k (omega (arith, le)) i))
    ∙ sym (λ i. sum_of (place_past c (all_places (c ∷ cs)) (omega arith) i) (summed_past cs (all_places (c ∷ cs)) (omega arith) i))

summed_exact : (cs : List CostList) (n : ℕ) → ((k : ℕ) → is_counted (summed cs k) ≡ true) → sum_first (summed cs) n ≡ costs_of cs n
summed_exact [] n h = zero_first n
summed_exact (c ∷ cs) n h = sums_exact (place c) (summed cs) n h ∙ ap (plus (prefix_sum c n)) (summed_exact cs n (λ k. part_counted (place c k) (summed cs k) (h k)))

sum_costs : (cs : List CostList) (n : ℕ) → all_counted (list_of (all_places cs) (summed cs)) ≡ true → prefix_sum (list_of (all_places cs) (summed cs)) n ≡ costs_of cs n
sum_costs cs n h =
    let same : (k : ℕ) → place (list_of (all_places cs) (summed cs)) k ≡ summed cs k = list_of_place (all_places cs) (summed cs) (λ k le. summed_past cs k le) in
    sum_first_same (place (list_of (all_places cs) (summed cs))) (summed cs) n (λ k less. same k)
    ∙ summed_exact cs n (λ k. ap is_counted (sym (same k)) ∙ counted_place (list_of (all_places cs) (summed cs)) h k)

plus_past : (a b c : Extent) → plus a (plus b c) ≡ plus b (plus a c)
plus_past a b c = sym (plus_assoc a b c) ∙ ap (λ (x : Extent). plus x c) (plus_comm a b) ∙ plus_assoc b a c

module _ (b : ℕ → Extent) where
  abbrev pub V : Term → ℕ → Extent
  V = term_value b

  abbrev pub S : List Term → ℕ → Extent
  S us = sum_at (map V us)

  none_level : (y : Term-F (ℕ → Extent)) → level_value b y 0 ≡ Finite 0
  none_level (Const c) = refl
  none_level (Sum fs) = refl
  none_level (Alt fs) = refl
  none_level (Power id f) = refl
  none_level (Once f) = refl
  none_level (Scaled id f) = refl

  pub at_out : (u : Term) → V u ≡ level_value b (map-Term Term (ℕ → Extent) V (out-Term u))
  at_out u = fold_out-Term (ℕ → Extent) (level_value b) u

  pub none : (u : Term) → V u 0 ≡ Finite 0
  none u = ap (λ (f : ℕ → Extent). f 0) (at_out u) ∙ none_level (map-Term Term (ℕ → Extent) V (out-Term u))

  S_none : (us : List Term) → S us 0 ≡ Finite 0
  S_none [] = refl
  S_none (u ∷ us) = λ i. plus (none u i) (S_none us i)

  pub sum_is : (us : List Term) (n : ℕ) → V (t.Sum us) n ≡ S us n
  sum_is us n = ap (λ (f : ℕ → Extent). f n) (value_sum b us) ∙ any_id (S us) (S_none us) n

  pub const_is : (c : CostList) (n : ℕ) → V (t.Const c) n ≡ prefix_sum c n
  const_is c n = ap (λ (f : ℕ → Extent). f n) (value_const b c) ∙ any_id (prefix_sum c) refl n

  S_append : (us ws : List Term) (n : ℕ) → S (us ++ ws) n ≡ plus (S us n) (S ws n)
  S_append [] ws n = sym (plus_nothing (S ws n))
  S_append (u ∷ us) ws n = ap (plus (V u n)) (S_append us ws n) ∙ sym (plus_assoc (V u n) (S us n) (S ws n))

  summands_by : (u : Term) (y : Term-F Term) (n : ℕ) → V u n ≡ level_value b (map-Term Term (ℕ → Extent) V y) n → S (summands_of u y) n ≡ V u n
  summands_by u (Const c) n h = nothing_plus (V u n)
  summands_by u (Sum us) n h = sym (any_id (S us) (S_none us) n) ∙ sym h
  summands_by u (Alt us) n h = nothing_plus (V u n)
  summands_by u (Power id w) n h = nothing_plus (V u n)
  summands_by u (Once w) n h = nothing_plus (V u n)
  summands_by u (Scaled id w) n h = nothing_plus (V u n)

  flat_is : (us : List Term) (n : ℕ) → S (flattened summands us) n ≡ S us n
  flat_is [] n = refl
  flat_is (u ∷ us) n =
      S_append (summands u) (flattened summands us) n
      ∙ (λ i. plus (summands_by u (out-Term u) n (ap (λ (f : ℕ → Extent). f n) (at_out u)) i) (flat_is us n i))

  split_by : (u : Term) (y : Term-F Term) (n : ℕ) (cs : List CostList) (rest : List Term) → V u n ≡ level_value b (map-Term Term (ℕ → Extent) V y) n
      → plus (V u n) (plus (costs_of cs n) (S rest n)) ≡ plus (costs_of (with_constant (constant_of y) cs) n) (S (unless_constant (constant_of y) u rest) n)
  split_by u (Const c) n cs rest h =
      ap (λ (x : Extent). plus x (plus (costs_of cs n) (S rest n))) (h ∙ any_id (prefix_sum c) refl n) ∙ sym (plus_assoc (prefix_sum c n) (costs_of cs n) (S rest n))
  split_by u (Sum us) n cs rest h = plus_past (V u n) (costs_of cs n) (S rest n)
  split_by u (Alt us) n cs rest h = plus_past (V u n) (costs_of cs n) (S rest n)
  split_by u (Power id w) n cs rest h = plus_past (V u n) (costs_of cs n) (S rest n)
  split_by u (Once w) n cs rest h = plus_past (V u n) (costs_of cs n) (S rest n)
  split_by u (Scaled id w) n cs rest h = plus_past (V u n) (costs_of cs n) (S rest n)

  split_is : (us : List Term) (n : ℕ) → S us n ≡ plus (costs_of (constants us) n) (S (others us) n)
  split_is [] n = refl
  split_is (u ∷ us) n = ap (plus (V u n)) (split_is us n) ∙ split_by u (out-Term u) n (constants us) (others us) (ap (λ (f : ℕ → Extent). f n) (at_out u))

  led_is : (cs : List CostList) (rest all : List Term) (n : ℕ) → S all n ≡ plus (costs_of cs n) (S rest n) → S (sums_first cs rest all) n ≡ S all n
  led_is [] rest all n h = refl
  led_is (c ∷ cs) rest all n h = by (all_counted s) refl
    where
      s : CostList
      s = list_of (all_places (c ∷ cs)) (summed (c ∷ cs))

      by : (x : Bool) → all_counted s ≡ x → S (led_if x s rest all) n ≡ S all n
      by false e = refl
      by true e = ap (λ (x : Extent). plus x (S rest n)) (const_is s n ∙ sum_costs (c ∷ cs) n e) ∙ sym h

  free_by : (u : Term) (y : Term-F Term) (n : ℕ) → V u n ≡ level_value b (map-Term Term (ℕ → Extent) V y) n → is_zero (constant_of y) ≡ true → V u n ≡ Finite 0
  free_by u (Const c) n h e = h ∙ any_id (prefix_sum c) refl n ∙ ap (λ (x : CostList). prefix_sum x n) ((lists_decide c zero_costs).0 e) ∙ zero_first n
  free_by u (Sum us) n h e = absurd (true≢false (sym e))
  free_by u (Alt us) n h e = absurd (true≢false (sym e))
  free_by u (Power id w) n h e = absurd (true≢false (sym e))
  free_by u (Once w) n h e = absurd (true≢false (sym e))
  free_by u (Scaled id w) n h e = absurd (true≢false (sym e))

  dropped_is : (us : List Term) (n : ℕ) → S (without_zero us) n ≡ S us n
  dropped_is [] n = refl
  dropped_is (u ∷ []) n = refl
  dropped_is (u ∷ w ∷ us) n = by (is_zero (constant u)) refl
    where
      by : (x : Bool) → is_zero (constant u) ≡ x → S (if x then w ∷ us else u ∷ w ∷ us) n ≡ S (u ∷ w ∷ us) n
      by false e = refl
      by true e = sym (ap (λ (x : Extent). plus x (S (w ∷ us) n)) (free_by u (out-Term u) n (ap (λ (f : ℕ → Extent). f n) (at_out u)) e) ∙ plus_nothing (S (w ∷ us) n))

  alone_is : (us : List Term) (n : ℕ) → V (alone_sum us) n ≡ S us n
  alone_is [] n = const_is zero_costs n ∙ zero_first n
  alone_is (u ∷ []) n = sym (nothing_plus (V u n))
  alone_is (u ∷ w ∷ us) n = sum_is (u ∷ w ∷ us) n

  pub normal_sum_is : (us : List Term) (n : ℕ) → V (normal_sum us) n ≡ S us n
  normal_sum_is us n =
      let all : List Term = flattened summands us in
      let led : List Term = sums_first (constants all) (others all) all in
      alone_is (without_zero led) n ∙ dropped_is led n ∙ led_is (constants all) (others all) all n (split_is all n) ∙ flat_is us n

  -- a body that is a constant
  pub body_is : (u : Term) (c : CostList) (n : ℕ) → constant u ≡ Some c → V u n ≡ prefix_sum c n
  body_is u c n e = by (out-Term u) (ap (λ (f : ℕ → Extent). f n) (at_out u)) e
    where
      by : (y : Term-F Term) → V u n ≡ level_value b (map-Term Term (ℕ → Extent) V y) n → constant_of y ≡ Some c → V u n ≡ prefix_sum c n
      by (Const d) h e = h ∙ any_id (prefix_sum d) refl n ∙ (let same : d ≡ c = cc in ap (λ (x : CostList). prefix_sum x n) same)
      by (Sum us) h e = absurd (cc)
      by (Alt us) h e = absurd (cc)
      by (Power id w) h e = absurd (cc)
      by (Once w) h e = absurd (cc)
      by (Scaled id w) h e = absurd (cc)

  flat_first : (x : Cost) (n : ℕ) → prefix_sum (flat x) n ≡ times n (extent_of x)
  flat_first x n = sum_first_constant (λ _. x) x n (λ k less. refl)

  once_any : (u : Term) (n : ℕ) → V (t.Once u) n ≡ times n (V u 1)
  once_any u n = ap (λ (f : ℕ → Extent). f n) (value_once b u) ∙ any_id (λ m. times m (V u 1)) (zero_times (V u 1)) n
    where
      zero_times : (e : Extent) → times 0 e ≡ Finite 0
      zero_times Infinite = refl
      zero_times (Finite a) = ap Finite (omega arith)

  pub once_is : (u : Term) (n : ℕ) → V (once_of u (constant u)) n ≡ V (t.Once u) n
  once_is u n = by (constant u) refl
    where
      by : (x : Option CostList) → constant u ≡ x → V (once_of u x) n ≡ V (t.Once u) n
      by None e = refl
      by (Some c) e =
          const_is (flat (place c 0)) n ∙ flat_first (place c 0) n
          ∙ ap (times n) (sym (body_is u c 1 e ∙ nothing_plus (extent_of (place c 0)))) ∙ sym (once_any u n)

  pub power_is : (known : ℕ → Option ℕ) (id : ℕ) (u : Term) → ((m : ℕ) → known id ≡ Some m → b id ≡ Finite m) → (n : ℕ) → V (power_of id u (known id) (constant u)) n ≡ V (t.Power id u) n
  power_is known id u agree n = by (known id) (constant u) agree refl
    where
      by : (x : Option ℕ) (y : Option CostList) → ((m : ℕ) → x ≡ Some m → b id ≡ Finite m) → constant u ≡ y → V (power_of id u x y) n ≡ V (t.Power id u) n
      by None y agree e = refl
      by (Some m) None agree e = refl
      by (Some m) (Some c) agree e = by_count (all_counted (list_groups (Fin m) c)) refl
        where
          turned : n * m ≡ m * n
          turned = grind arith

          by_count : (z : Bool) → all_counted (list_groups (Fin m) c) ≡ z → V (kept_if z (list_groups (Fin m) c) (t.Power id u)) n ≡ V (t.Power id u) n
          by_count false h = refl
          by_count true h =
              const_is (list_groups (Fin m) c) n ∙ list_groups_exact c m n h ∙ ap (prefix_sum c) (sym turned) ∙ sym (body_is u c (n * m) e)
              ∙ sym (ap (λ (f : ℕ → Extent). f n) (value_power b id u) ∙ ap (λ (x : Extent). if_any (power_at x (V u)) n) (agree m refl)
              ∙ any_id (λ k. V u (k * m)) (let z : 0 * m ≡ 0 = omega arith in ap (V u) z ∙ none u) n)

  pub scaled_is : (known : ℕ → Option ℕ) (id : ℕ) (u : Term) → ((m : ℕ) → known id ≡ Some m → b id ≡ Finite m) → (n : ℕ) → V (scaled_of id u (known id) (constant u)) n ≡ V (t.Scaled id u) n
  scaled_is known id u agree n = by (known id) (constant u) agree refl
    where
      zero_times : (e : Extent) → times 0 e ≡ Finite 0
      zero_times Infinite = refl
      zero_times (Finite a) = ap Finite (omega arith)

      by : (x : Option ℕ) (y : Option CostList) → ((m : ℕ) → x ≡ Some m → b id ≡ Finite m) → constant u ≡ y → V (scaled_of id u x y) n ≡ V (t.Scaled id u) n
      by None y agree e = refl
      by (Some m) None agree e = refl
      by (Some m) (Some c) agree e = by_count (all_counted (flat (cost_of (prefix_sum c m)))) refl
        where
          x : Cost
          x = cost_of (prefix_sum c m)

          by_count : (z : Bool) → all_counted (flat x) ≡ z → V (kept_if z (flat x) (t.Scaled id u)) n ≡ V (t.Scaled id u) n
          by_count false h = refl
          by_count true h =
              const_is (flat x) n ∙ flat_first x n ∙ ap (times n) (exact (prefix_sum c m) (counted_place (flat x) h 0) ∙ sym (body_is u c m e))
              ∙ sym (ap (λ (f : ℕ → Extent). f n) (value_scaled b id u) ∙ ap (λ (y : Extent). if_any (scaled_at y (V u)) n) (agree m refl)
              ∙ any_id (λ k. times k (V u m)) (zero_times (V u m)) n)

-- The law, from the one on Alt.
module _ (b : ℕ → Extent) (known : ℕ → Option ℕ) (agree : (id m : ℕ) → known id ≡ Some m → b id ≡ Finite m)
    (alts : (us : List Term) (n : ℕ) → term_value b (normal_alt us) n ≡ term_value b (t.Alt us) n) where
  abbrev Keeps : Term → Type 0
  Keeps u = (n : ℕ) → term_value b (normal known u) n ≡ term_value b u n

  abbrev Known : Type 0
  Known = Such the_family (claims Keeps) member-Term

  all_keep : (ys : List Known) → map (term_value b) (map (normal known) (map (λ e. e.0) ys)) ≡ map (term_value b) (map (λ e. e.0) ys)
  all_keep [] = refl
  all_keep (y ∷ ys) = λ i. (λ n. y.1 n i) ∷ all_keep ys i

  same_value : (y : Known) → term_value b (normal known y.0) ≡ term_value b y.0
  same_value y = λ i n. y.1 n i

  at_level : (y : Term-F Known) (n : ℕ) → term_value b (level_normal known (map-Term Term Term (normal known) (map-Term Known Term (λ e. e.0) y))) n
      ≡ level_value b (map-Term Term (ℕ → Extent) (term_value b) (map-Term Known Term (λ e. e.0) y)) n
  at_level (Const c) n = ap (λ (f : ℕ → Extent). f n) (value_const b c)
  at_level (Sum ys) n =
      let us : List Term = map (normal known) (map (λ e. e.0) ys) in
      normal_sum_is b us n ∙ sym (sum_is b us n) ∙ ap (λ (f : ℕ → Extent). f n) (value_sum b us) ∙ ap (λ (fs : List (ℕ → Extent)). if_any (sum_at fs) n) (all_keep ys)
  at_level (Alt ys) n =
      let us : List Term = map (normal known) (map (λ e. e.0) ys) in
      alts us n ∙ ap (λ (f : ℕ → Extent). f n) (value_alt b us) ∙ ap (λ (fs : List (ℕ → Extent)). if_any (shared_at fs) n) (all_keep ys)
  at_level (Power id y) n =
      power_is b known id (normal known y.0) (agree id) n ∙ ap (λ (f : ℕ → Extent). f n) (value_power b id (normal known y.0)) ∙ ap (λ (f : ℕ → Extent). if_any (power_at (b id) f) n) (same_value y)
  at_level (Once y) n =
      once_is b (normal known y.0) n ∙ ap (λ (f : ℕ → Extent). f n) (value_once b (normal known y.0)) ∙ ap (λ (f : ℕ → Extent). if_any (λ m. times m (f 1)) n) (same_value y)
  at_level (Scaled id y) n =
      scaled_is b known id (normal known y.0) (agree id) n ∙ ap (λ (f : ℕ → Extent). f n) (value_scaled b id (normal known y.0)) ∙ ap (λ (f : ℕ → Extent). if_any (scaled_at (b id) f) n) (same_value y)

  one_level : (y : Term-F Known) → Keeps (roll-Term (map-Term Known Term (λ e. e.0) y))
  one_level y n =
      ap (λ (u : Term). term_value b u n) (fold-roll-Term Term (level_normal known) (map-Term Known Term (λ e. e.0) y))
      ∙ at_level y n
      ∙ sym (ap (λ (f : ℕ → Extent). f n) (fold-roll-Term (ℕ → Extent) (level_value b) (map-Term Known Term (λ e. e.0) y)))

  pub keeps_value : (u : Term) → Keeps u
  keeps_value u = ind-Term Keeps (λ x y e. subst (λ (l : Term-F Term). Keeps (roll-Term l)) e (one_level y)) u
