-- The constant in front of the other members.
use Rattle.std.proofs.Common.{◌≡◌, ℕ, ◌+◌, ◌^◌, ◌≤◌, ◌*◌, ◌<◌, Bool, true, false, ◌&&◌, nat_lt, List, [], ◌∷◌, length, map, get_or, drop, Option, Some, None, refl, sym, ap, subst, ◌∙◌, arith}
use Rattle.cost_multiset.specs.CostLists.{CostList, descends, place, prefix_sum}
use Rattle.cost_multiset.specs.Gathered.{all_counted, list_of}
use Rattle.cost_multiset.proofs.PlaceLaws.{if_true, if_false, place_in_range}
use Rattle.wsym_terms.specs.Costs.{cost_of, extent_of}
use Rattle.wsym_terms.specs.Extents.{Extent}
use Rattle.wsym_terms.specs.declared.costs.Cost.{Cost}
use Rattle.wsym_terms.specs.declared.costs.Cost.TheVariants.{Fin}
use Rattle.wsym_terms.proofs.CostLaws.{cost_of_extent}
use Rattle.wsym_terms.proofs.ExtentLaws.{nothing_plus}
use Rattle.cost_multiset.proofs.SumLaws.{sum_first_same}
use Rattle.cost_multiset.specs.CostLists.{grouped, from, sum_first}
use Rattle.wsym_formula.proofs.Clipping.{alike_clip}
use Rattle.wsym_formula.specs.Tables.{meaning_at, AllBelow, Extends}
use Rattle.simplifier.specs.Normal.{all_descend, all_places, constant, constants, flat, is_zero, led_if, others, summed, sums_first, united, unions_first, without_zero}
use Rattle.wsym_formula.specs.declared.nodes.Node.{Node}
use Rattle.wsym_formula.specs.declared.terms.Term.{Term}
use Rattle.wsym_formula.specs.declared.terms.Term.TheVariants as t
use Rattle.simplifier.specs.Simplified.{led_given, some_if, leading_sum, leading_union}
use Rattle.wsym_formula.proofs.Growing.{below_more, longer, members_stay}

led_by : (x : Bool) (c : CostList) (rest all : List Term) → led_given (some_if x c) rest all ≡ led_if x c rest all
led_by true c rest all = refl
led_by false c rest all = refl

sums_led : (lists : List CostList) (rest all : List Term) → led_given (leading_sum lists) rest all ≡ sums_first lists rest all
sums_led [] rest all = refl
sums_led (c ∷ lists) rest all = led_by (all_counted (list_of (all_places (c ∷ lists)) (summed (c ∷ lists)))) (list_of (all_places (c ∷ lists)) (summed (c ∷ lists))) rest all

unions_led : (lists : List CostList) (rest all : List Term) → led_given (leading_union lists) rest all ≡ unions_first lists rest all
unions_led [] rest all = refl
unions_led (c ∷ lists) rest all = led_by (all_descend (c ∷ lists) && nat_lt (all_places (c ∷ lists)) (2 ^ 63)) (list_of (all_places (c ∷ lists)) (united (c ∷ lists))) rest all

pub sum_leads : (us : List Term) (c : CostList) → Some c ≡ leading_sum (constants us) → t.Const c ∷ others us ≡ sums_first (constants us) (others us) us
sum_leads us c e = ap (λ (x : Option CostList). led_given x (others us) us) e ∙ sums_led (constants us) (others us) us

pub no_sum_leads : (us : List Term) → None ≡ leading_sum (constants us) → us ≡ sums_first (constants us) (others us) us
no_sum_leads us e = ap (λ (x : Option CostList). led_given x (others us) us) e ∙ sums_led (constants us) (others us) us

pub union_leads : (us : List Term) (c : CostList) → Some c ≡ leading_union (constants us) → t.Const c ∷ others us ≡ unions_first (constants us) (others us) us
union_leads us c e = ap (λ (x : Option CostList). led_given x (others us) us) e ∙ unions_led (constants us) (others us) us

pub no_union_leads : (us : List Term) → None ≡ leading_union (constants us) → us ≡ unions_first (constants us) (others us) us
no_union_leads us e = ap (λ (x : Option CostList). led_given x (others us) us) e ∙ unions_led (constants us) (others us) us

pub lead_below : (old new : List Node) (first : ℕ) (rest all : List ℕ) → Extends old new → AllBelow (length old) rest → first < length new → all ≡ first ∷ rest → AllBelow (length new) all
lead_below old new first rest all e b h is = subst (λ (ms : List ℕ). AllBelow (length new) ms) (sym is) (h, below_more (length old) (length new) rest (longer old new e) b)

pub lead_means : (old new : List Node) (first : ℕ) (c : CostList) (parts rest all : List ℕ) → Extends old new → AllBelow (length old) rest → meaning_at new first ≡ t.Const c
    → map (meaning_at old) rest ≡ others (map (meaning_at old) parts) → all ≡ first ∷ rest → map (meaning_at new) all ≡ t.Const c ∷ others (map (meaning_at old) parts)
lead_means old new first c parts rest all e b m o is = ap (map (meaning_at new)) is ∙ (λ i. m i ∷ (members_stay old new rest e b ∙ o) i)

-- a first 0 beside others
pub few_stay : (f : ℕ → Term) (ms : List ℕ) → length ms < 2 → map f ms ≡ without_zero (map f ms)
few_stay f [] h = refl
few_stay f (m ∷ []) h = refl
few_stay f (m ∷ k ∷ ms) h = absurd (omega (arith, h))

pub costly_stay : (f : ℕ → Term) (ms : List ℕ) (d : ℕ) → is_zero (constant (f (get_or ms 0 d))) ≡ false → map f ms ≡ without_zero (map f ms)
costly_stay f [] d h = refl
costly_stay f (m ∷ []) d h = refl
costly_stay f (m ∷ k ∷ ms) d h = sym (if_false (is_zero (constant (f m))) (f k ∷ map f ms) (f m ∷ f k ∷ map f ms) h)

pub free_goes : (f : ℕ → Term) (ms : List ℕ) (d : ℕ) → 2 ≤ length ms → is_zero (constant (f (get_or ms 0 d))) ≡ true → map f (drop 1 ms) ≡ without_zero (map f ms)
free_goes f [] d le h = absurd (omega (arith, le))
free_goes f (m ∷ []) d le h = absurd (omega (arith, le))
free_goes f (m ∷ k ∷ ms) d le h = sym (if_true (is_zero (constant (f m))) (f k ∷ map f ms) (f m ∷ f k ∷ map f ms) h)

pub rest_below : (l : ℕ) (ms : List ℕ) → AllBelow l ms → AllBelow l (drop 1 ms)
rest_below l [] b = tt
rest_below l (m ∷ ms) b = b.1

-- the first place of a constant, and its first places
pub first_place : (c : CostList) (x : Cost) → descends c.runs c.tail ≡ true → x ≡ cost_of (prefix_sum c 1) → Some (flat x) ≡ Some (flat (place c 0))
first_place c x h e = ap (λ (y : Cost). Some (flat y)) (e ∙ ap cost_of (nothing_plus (extent_of (place c 0))) ∙ cost_of_extent (place c 0) (place_in_range c.runs c.tail h 0))

pub prefix_of_group : (c g : CostList) (by : ℕ) → ((k : ℕ) → place g k ≡ grouped (Fin by) (place c) k) → cost_of (prefix_sum g 1) ≡ cost_of (prefix_sum c by)
prefix_of_group c g by same =
    let e : Extent = sum_first (from (by * 0) (place c)) by in
    ap cost_of (nothing_plus (extent_of (place g 0))) ∙ ap (λ (y : Cost). cost_of (extent_of y)) (same 0) ∙ alike_clip e
    ∙ ap cost_of (sum_first_same (from (by * 0) (place c)) (place c) by (λ k less. let z : by * 0 + k ≡ k = omega arith in ap (place c) z))
