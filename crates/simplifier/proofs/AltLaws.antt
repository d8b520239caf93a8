-- The normal form of an Alt has its value.
use Rattle.std.proofs.Common.{◌≡◌, ℕ, zero, suc, ◌*◌, ◌^◌, ◌++◌, Bool, true, false, ◌&&◌, nat_lt, List, [], ◌∷◌, map, refl, sym, ap, subst, ◌∙◌, arith, mul-le-mul_right}
use denote.Hole.Holds.{Such}
use Rattle.wsym_terms.specs.Extents.{Extent, Finite, Infinite, plus, times, if_any}
use Rattle.wsym_terms.specs.Trees.{best}
use Rattle.wsym_terms.proofs.ExtentLaws.{plus_at_most, times_more, zero_at_most}
use Rattle.cost_multiset.specs.CostLists.{CostList, place, prefix_sum}
use Rattle.cost_multiset.specs.Gathered.{list_of}
use Rattle.cost_multiset.proofs.PlaceLaws.{and_left}
use Rattle.wsym_formula.specs.Terms.{sum_at, shared_at, power_at, scaled_at, level_value, term_value}
use Rattle.simplifier.specs.Normal.{all_descend, all_places, alone_alt, choices, choices_of, constant_of, constants, flattened, led_if, normal_alt, others, united, unions_first, unless_constant, with_constant}
use Rattle.wsym_formula.specs.declared.terms.Term.{Term, fold-roll-Term, out-Term, roll-Term, ind-Term}
use Rattle.wsym_formula.specs.declared.terms.Term.TheOpen.{Term-F}
use Rattle.wsym_formula.specs.declared.terms.Term.TheOpen.Term-F.{Const, Sum, Alt, Power, Once, Scaled}
use Rattle.wsym_formula.specs.declared.terms.Term.TheBlock.{the_family, member-Term}
use Rattle.wsym_formula.specs.declared.terms.Term.TheFolds.{claims, map-Term}
use Rattle.wsym_formula.specs.declared.terms.Term.TheVariants as t
use Rattle.wsym_formula.proofs.Valuing.{value_alt}
use Rattle.wsym_formula.proofs.Splitting.{best_assoc}
use Rattle.simplifier.proofs.UnionLaws.{More, best_more, best_comm, unit_left, unit_right, sum_more, best_of, union_costs}
use Rattle.simplifier.proofs.NormalLaws.{any_id, at_out, const_is, none}

any_more : (f : ℕ → Extent) → More f → More (if_any f)
any_more f h zero n le = zero_at_most (if_any f n)
any_more f h (suc m) zero le = absurd (omega (arith, le))
any_more f h (suc m) (suc n) le = h (suc m) (suc n) le

nothing_more : More (λ n. Finite 0)
nothing_more m n le = omega arith

pub best_of_more : (cs : List CostList) → More (best_of cs)
best_of_more [] = nothing_more
best_of_more (c ∷ cs) = best_more (prefix_sum c) (best_of cs) (best_of_more cs)

module _ (b : ℕ → Extent) where
  abbrev V : Term → ℕ → Extent
  V = term_value b

  abbrev Rises : Term → Type 0
  Rises u = More (V u)

  abbrev Known : Type 0
  Known = Such the_family (claims Rises) member-Term

  abbrev values : List Known → List (ℕ → Extent)
  values ys = map V (map (λ e. e.0) ys)

  sums_more : (ys : List Known) → More (sum_at (values ys))
  sums_more [] m n le = nothing_more m n le
  sums_more (y ∷ ys) m n le = plus_at_most (V y.0 m) (sum_at (values ys) m) (V y.0 n) (sum_at (values ys) n) (y.1 m n le) (sums_more ys m n le)

  shares_more : (ys : List Known) → More (shared_at (values ys))
  shares_more [] = nothing_more
  shares_more (y ∷ []) = y.1
  shares_more (y ∷ z ∷ ys) = best_more (V y.0) (shared_at (values (z ∷ ys))) (shares_more (z ∷ ys))

  power_more : (e : Extent) (f : ℕ → Extent) → More f → More (power_at e f)
  power_more Infinite f h m n le = tt
  power_more (Finite k) f h m n le = h (m * k) (n * k) (mul-le-mul_right k le)

  scaled_more : (e : Extent) (f : ℕ → Extent) → More (scaled_at e f)
  scaled_more Infinite f m n le = tt
  scaled_more (Finite k) f m n le = times_more m n (f k) le

  level_more : (y : Term-F Known) → More (level_value b (map-Term Term (ℕ → Extent) V (map-Term Known Term (λ e. e.0) y)))
  level_more (Const c) = any_more (prefix_sum c) (sum_more (place c))
  level_more (Sum ys) = any_more (sum_at (values ys)) (sums_more ys)
  level_more (Alt ys) = any_more (shared_at (values ys)) (shares_more ys)
  level_more (Power id y) = any_more (power_at (b id) (V y.0)) (power_more (b id) (V y.0) y.1)
  level_more (Once y) = any_more (λ n. times n (V y.0 1)) (λ m n le. times_more m n (V y.0 1) le)
  level_more (Scaled id y) = any_more (scaled_at (b id) (V y.0)) (scaled_more (b id) (V y.0))

  one_level : (y : Term-F Known) → Rises (roll-Term (map-Term Known Term (λ e. e.0) y))
  one_level y = subst (λ (f : ℕ → Extent). More f) (sym (fold-roll-Term (ℕ → Extent) (level_value b) (map-Term Known Term (λ e. e.0) y))) (level_more y)

  pub term_rises : (u : Term) → Rises u
  term_rises u = ind-Term Rises (λ x y e. subst (λ (l : Term-F Term). Rises (roll-Term l)) e (one_level y)) u

  -- the greatest sum over all shares, with none at the end
  abbrev B : List Term → ℕ → Extent
  B [] n = Finite 0
  B (u ∷ us) n = best (V u) (B us) n n

  B_more : (us : List Term) → More (B us)
  B_more [] = nothing_more
  B_more (u ∷ us) = best_more (V u) (B us) (B_more us)

  shared_is : (us : List Term) (n : ℕ) → shared_at (map V us) n ≡ B us n
  shared_is [] n = refl
  shared_is (u ∷ []) n = sym (unit_right (V u) (term_rises u) n)
  shared_is (u ∷ w ∷ us) n = ap (λ (x : ℕ → Extent). best (V u) x n n) (λ i k. shared_is (w ∷ us) k i)

  shared_none : (us : List Term) → shared_at (map V us) 0 ≡ Finite 0
  shared_none [] = refl
  shared_none (u ∷ []) = none b u
  shared_none (u ∷ w ∷ us) = λ i. plus (none b u i) (shared_none (w ∷ us) i)

  alt_is : (us : List Term) (n : ℕ) → V (t.Alt us) n ≡ B us n
  alt_is us n = ap (λ (f : ℕ → Extent). f n) (value_alt b us) ∙ any_id (shared_at (map V us)) (shared_none us) n ∙ shared_is us n

  B_append : (us ws : List Term) (n : ℕ) → B (us ++ ws) n ≡ best (B us) (B ws) n n
  B_append [] ws n = sym (unit_left (B ws) (B_more ws) n)
  B_append (u ∷ us) ws n = ap (λ (x : ℕ → Extent). best (V u) x n n) (λ i k. B_append us ws k i) ∙ best_assoc (V u) (B us) (B ws) n

  choices_by : (u : Term) (y : Term-F Term) (n : ℕ) → V u n ≡ level_value b (map-Term Term (ℕ → Extent) V y) n → B (choices_of u y) n ≡ V u n
  choices_by u (Alt us) n h = sym (any_id (shared_at (map V us)) (shared_none us) n ∙ shared_is us n) ∙ sym h
  choices_by u (Const c) n h = unit_right (V u) (term_rises u) n
  choices_by u (Sum us) n h = unit_right (V u) (term_rises u) n
  choices_by u (Power id w) n h = unit_right (V u) (term_rises u) n
  choices_by u (Once w) n h = unit_right (V u) (term_rises u) n
  choices_by u (Scaled id w) n h = unit_right (V u) (term_rises u) n

  flat_is : (us : List Term) (n : ℕ) → B (flattened choices us) n ≡ B us n
  flat_is [] n = refl
  flat_is (u ∷ us) n =
      B_append (choices u) (flattened choices us) n
      ∙ (λ i. best (λ k. choices_by u (out-Term u) k (ap (λ (f : ℕ → Extent). f k) (at_out b u)) i) (λ k. flat_is us k i) n n)

  best_past : (f g h : ℕ → Extent) (n : ℕ) → best f (λ k. best g h k k) n n ≡ best g (λ k. best f h k k) n n
  best_past f g h n = best_assoc f g h n ∙ ap (λ (x : ℕ → Extent). best x h n n) (λ i k. best_comm f g k i) ∙ sym (best_assoc g f h n)

  split_by : (u : Term) (y : Term-F Term) (cs : List CostList) (rest : List Term) → ((n : ℕ) → V u n ≡ level_value b (map-Term Term (ℕ → Extent) V y) n) → (n : ℕ)
      → best (V u) (λ k. best (best_of cs) (B rest) k k) n n ≡ best (best_of (with_constant (constant_of y) cs)) (B (unless_constant (constant_of y) u rest)) n n
  split_by u (Const c) cs rest h n =
      ap (λ (x : ℕ → Extent). best x (λ k. best (best_of cs) (B rest) k k) n n) (λ i k. (h k ∙ any_id (prefix_sum c) refl k) i)
      ∙ best_assoc (prefix_sum c) (best_of cs) (B rest) n
  split_by u (Sum us) cs rest h n = best_past (V u) (best_of cs) (B rest) n
  split_by u (Alt us) cs rest h n = best_past (V u) (best_of cs) (B rest) n
  split_by u (Power id w) cs rest h n = best_past (V u) (best_of cs) (B rest) n
  split_by u (Once w) cs rest h n = best_past (V u) (best_of cs) (B rest) n
  split_by u (Scaled id w) cs rest h n = best_past (V u) (best_of cs) (B rest) n

  split_is : (us : List Term) (n : ℕ) → B us n ≡ best (best_of (constants us)) (B (others us)) n n
  split_is [] n = sym (unit_left (λ k. Finite 0) nothing_more n)
  split_is (u ∷ us) n =
      ap (λ (x : ℕ → Extent). best (V u) x n n) (λ i k. split_is us k i)
      ∙ split_by u (out-Term u) (constants us) (others us) (λ k. ap (λ (f : ℕ → Extent). f k) (at_out b u)) n

  led_is : (cs : List CostList) (rest all : List Term) (n : ℕ) → B all n ≡ best (best_of cs) (B rest) n n → B (unions_first cs rest all) n ≡ B all n
  led_is [] rest all n h = refl
  led_is (c ∷ cs) rest all n h = by (all_descend (c ∷ cs) && nat_lt (all_places (c ∷ cs)) (2 ^ 63)) refl
    where
      s : CostList
      s = list_of (all_places (c ∷ cs)) (united (c ∷ cs))

      by : (x : Bool) → (all_descend (c ∷ cs) && nat_lt (all_places (c ∷ cs)) (2 ^ 63)) ≡ x → B (led_if x s rest all) n ≡ B all n
      by false e = refl
      by true e =
          ap (λ (x : ℕ → Extent). best x (B rest) n n) (λ i k. (const_is b s k ∙ union_costs c cs (and_left (all_descend (c ∷ cs)) (nat_lt (all_places (c ∷ cs)) (2 ^ 63)) e) k) i)
          ∙ sym h

  alone_is : (us : List Term) (n : ℕ) → V (alone_alt us) n ≡ B us n
  alone_is [] n = alt_is [] n
  alone_is (u ∷ []) n = sym (unit_right (V u) (term_rises u) n)
  alone_is (u ∷ w ∷ us) n = alt_is (u ∷ w ∷ us) n

  pub normal_alt_is : (us : List Term) (n : ℕ) → V (normal_alt us) n ≡ V (t.Alt us) n
  normal_alt_is us n =
      let all : List Term = flattened choices us in
      alone_is (unions_first (constants all) (others all) all) n ∙ led_is (constants all) (others all) all n (split_is all n) ∙ flat_is us n ∙ sym (alt_is us n)
