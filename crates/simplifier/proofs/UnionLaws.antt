-- Greatest sums: units, order, and descending unions of more than two lists.
use Rattle.std.proofs.Common.{◌≡◌, ℕ, zero, suc, ◌+◌, ◌-◌, ◌≤◌, Bool, true, false, if◌then◌else◌, List, [], ◌∷◌, refl, sym, ap, subst, ◌∙◌, arith, true≢false}
use Rattle.wsym_terms.specs.Extents.{Extent, Finite, plus, IsAtMost}
use Rattle.wsym_terms.specs.Costs.{extent_of, is_in_range, is_less, larger_of}
use Rattle.wsym_terms.specs.Trees.{best}
use Rattle.wsym_terms.specs.declared.costs.Cost.{Cost}
use Rattle.wsym_terms.specs.declared.costs.Cost.TheVariants.{Fin}
use Rattle.wsym_terms.proofs.CostLaws.{at_most_of, not_less, less_self}
use Rattle.wsym_terms.proofs.ExtentLaws.{at_most_trans, at_most_self, at_most_antisym, plus_at_most, plus_comm, plus_nothing, nothing_plus, zero_at_most}
use Rattle.wsym_terms.proofs.SplitLaws.{best_at_least, best_at_most}
use Rattle.cost_multiset.specs.CostLists.{CostList, descends, place, places, prefix_sum, sum_first, merged, from}
use Rattle.cost_multiset.specs.Parts.{IsFalling}
use Rattle.cost_multiset.specs.Gathered.{list_of}
use Rattle.cost_multiset.proofs.PlaceLaws.{and_left, and_right, if_true, if_false, place_falls, place_in_range}
use Rattle.cost_multiset.proofs.SumLaws.{sum_first_add, sum_first_same}
use Rattle.cost_multiset.proofs.BestLaws.{falls_at, merged_is_best}
use Rattle.cost_multiset.proofs.MergeLaws.{merged_left, merged_right, merged_flat_left, merged_flat_right, merged_falls}
use Rattle.cost_multiset.proofs.GatherLaws.{list_of_place}
use Rattle.cost_multiset.proofs.CountedLaws.{place_past}
use Rattle.simplifier.specs.Normal.{all_descend, all_places, united}

abbrev pub More : (ℕ → Extent) → Type 0
More f = (m n : ℕ) → m ≤ n → IsAtMost (f m) (f n)

pub best_more : (f g : ℕ → Extent) → More g → More (λ n. best f g n n)
best_more f g s m n h = best_at_most f g m m (best f g n n)
    (λ i le. at_most_trans (plus (f i) (g (m - i))) (plus (f i) (g (n - i))) (best f g n n)
    (plus_at_most (f i) (g (m - i)) (f i) (g (n - i)) (at_most_self (f i)) (s (m - i) (n - i) (omega arith)))
    (best_at_least f g i n n (omega arith)))

half_comm : (f g : ℕ → Extent) (n : ℕ) → IsAtMost (best f g n n) (best g f n n)
half_comm f g n = best_at_most f g n n (best g f n n)
    (λ i le.
    let back : n - (n - i) ≡ i = omega (arith, le) in
    subst (λ (x : Extent). IsAtMost x (best g f n n)) (plus_comm (g (n - i)) (f i))
    (subst (λ (m : ℕ). IsAtMost (plus (g (n - i)) (f m)) (best g f n n)) back (best_at_least g f (n - i) n n (omega arith))))

pub best_comm : (f g : ℕ → Extent) (n : ℕ) → best f g n n ≡ best g f n n
best_comm f g n = at_most_antisym (best f g n n) (best g f n n) (half_comm f g n) (half_comm g f n)

pub unit_left : (g : ℕ → Extent) → More g → (n : ℕ) → best (λ _. Finite 0) g n n ≡ g n
unit_left g s n =
    let whole : n - 0 ≡ n = omega arith in
    at_most_antisym (best (λ _. Finite 0) g n n) (g n)
    (best_at_most (λ _. Finite 0) g n n (g n) (λ i le. subst (λ (x : Extent). IsAtMost x (g n)) (sym (plus_nothing (g (n - i)))) (s (n - i) n (omega arith))))
    (subst (λ (x : Extent). IsAtMost x (best (λ _. Finite 0) g n n)) (plus_nothing (g (n - 0)) ∙ ap g whole) (best_at_least (λ _. Finite 0) g 0 n n (omega arith)))

pub unit_right : (f : ℕ → Extent) → More f → (n : ℕ) → best f (λ _. Finite 0) n n ≡ f n
unit_right f s n = best_comm f (λ _. Finite 0) n ∙ unit_left f s n

pub sum_more : (f : ℕ → Cost) → More (sum_first f)
sum_more f m n h =
    let whole : m + (n - m) ≡ n = omega (arith, h) in
    subst (λ (x : Extent). IsAtMost (sum_first f m) x) (sym (sum_first_add f m (n - m)) ∙ ap (sum_first f) whole)
    (subst (λ (x : Extent). IsAtMost x (plus (sum_first f m) (sum_first (from m f) (n - m)))) (nothing_plus (sum_first f m))
    (plus_at_most (sum_first f m) (Finite 0) (sum_first f m) (sum_first (from m f) (n - m)) (at_most_self (sum_first f m)) (zero_at_most (sum_first (from m f) (n - m)))))

-- where a falling list stands
pub record Falls (f : ℕ → Cost) : Type 0 where
  pub falls : IsFalling f
  pub range : (k : ℕ) → is_in_range (f k) ≡ true

next : (f : ℕ → Cost) → Falls f → Falls (λ k. f (suc k))
next f h = record { falls = λ k. h.falls (suc k); range = λ k. h.range (suc k) }

below_first : (f : ℕ → Cost) → Falls f → (k : ℕ) → IsAtMost (extent_of (f k)) (extent_of (f 0))
below_first f h zero = at_most_self (extent_of (f 0))
below_first f h (suc k) = at_most_trans (extent_of (f (suc k))) (extent_of (f k)) (extent_of (f 0)) (falls_at f h.falls h.range k) (below_first f h k)

merged_range : (f g : ℕ → Cost) → Falls f → Falls g → (k : ℕ) → is_in_range (merged f g k) ≡ true
merged_range f g h j zero = elim (is_less (f 0) (g 0)) as (λ t. is_in_range (if t then g 0 else f 0) ≡ true) [ true ↦ j.range 0 | false ↦ h.range 0 ]
merged_range f g h j (suc k) =
    let one = merged_range f (λ i. g (suc i)) h (next g j) k in
    let two = merged_range (λ i. f (suc i)) g (next f h) j k in
    elim (is_less (f 0) (g 0)) as (λ t. is_in_range (if t then merged f (λ i. g (suc i)) k else merged (λ i. f (suc i)) g k) ≡ true) [ true ↦ one | false ↦ two ]

pub merged_fall : (f g : ℕ → Cost) → Falls f → Falls g → Falls (merged f g)
merged_fall f g h j = record { falls = merged_falls f g h.falls j.falls; range = merged_range f g h j }

abbrev StaysFrom : ℕ → (ℕ → Cost) → Cost → Type 0
StaysFrom p f s = (k : ℕ) → p ≤ k → f k ≡ s

shifted : (p : ℕ) (f : ℕ → Cost) (s : Cost) → StaysFrom (suc p) f s → StaysFrom p (λ k. f (suc k)) s
shifted p f s h k le = h (suc k) (omega (arith, le))

larger_left : (s u : Cost) → is_less s u ≡ false → larger_of s u ≡ s
larger_left s u h = if_false (is_less s u) u s h

larger_right : (s u : Cost) → is_less s u ≡ true → larger_of s u ≡ u
larger_right s u h = if_true (is_less s u) u s h

-- a union stays the same where both lists do
pub union_past : (p q : ℕ) (f g : ℕ → Cost) (s u : Cost) → Falls f → Falls g → StaysFrom p f s → StaysFrom q g u → (k : ℕ) → p + q ≤ k → merged f g k ≡ larger_of s u
union_past zero zero f g s u h j a b k le =
    ap (λ (x : ℕ → Cost). merged x g k) (λ i m. a m (omega arith) i) ∙ ap (λ (x : ℕ → Cost). merged (λ _. s) x k) (λ i m. b m (omega arith) i) ∙ by (is_less s u) refl
  where
    by : (t : Bool) → is_less s u ≡ t → merged (λ _. s) (λ _. u) k ≡ larger_of s u
    by true e = merged_flat_right u (λ _. s) e k ∙ sym (larger_right s u e)
    by false e = merged_flat_left s (λ _. u) e k ∙ sym (larger_left s u e)
union_past zero (suc q) f g s u h j a b zero le = absurd (omega (arith, le))
union_past zero (suc q) f g s u h j a b (suc k) le = by (union_past zero q f (λ i. g (suc i)) s u h (next g j) a (shifted q g u b) k (omega (arith, le))) (is_less (f 0) (g 0)) refl
  where
    by : merged f (λ i. g (suc i)) k ≡ larger_of s u → (t : Bool) → is_less (f 0) (g 0) ≡ t → merged f g (suc k) ≡ larger_of s u
    by rest true e = merged_right f g k e ∙ rest
    by rest false e =
        let first : is_less s (g 0) ≡ false = subst (λ (x : Cost). is_less x (g 0) ≡ false) (a 0 (omega arith)) e in
        let range : is_in_range s ≡ true = subst (λ (x : Cost). is_in_range x ≡ true) (a 0 (omega arith)) (h.range 0) in
        let low : IsAtMost (extent_of u) (extent_of (g 0)) = subst (λ (x : Cost). IsAtMost (extent_of x) (extent_of (g 0))) (b (suc q) (omega arith)) (below_first g j (suc q)) in
        let above : IsAtMost (extent_of (g 0)) (extent_of s) = at_most_of s (g 0) (j.range 0) first in
        ap (λ (x : ℕ → Cost). merged x g (suc k)) (λ i m. a m (omega arith) i) ∙ merged_flat_left s g first (suc k)
        ∙ sym (larger_left s u (not_less s u range (at_most_trans (extent_of u) (extent_of (g 0)) (extent_of s) low above)))
union_past (suc p) zero f g s u h j a b zero le = absurd (omega (arith, le))
union_past (suc p) zero f g s u h j a b (suc k) le = by (union_past p zero (λ i. f (suc i)) g s u (next f h) j (shifted p f s a) b k (omega (arith, le))) (is_less (f 0) (g 0)) refl
  where
    by : merged (λ i. f (suc i)) g k ≡ larger_of s u → (t : Bool) → is_less (f 0) (g 0) ≡ t → merged f g (suc k) ≡ larger_of s u
    by rest false e = merged_left f g k e ∙ rest
    by rest true e =
        let first : is_less (f 0) u ≡ true = subst (λ (x : Cost). is_less (f 0) x ≡ true) (b 0 (omega arith)) e in
        let range : is_in_range u ≡ true = subst (λ (x : Cost). is_in_range x ≡ true) (b 0 (omega arith)) (j.range 0) in
        let range' : is_in_range s ≡ true = subst (λ (x : Cost). is_in_range x ≡ true) (a (suc p) (omega arith)) (h.range (suc p)) in
        let low : IsAtMost (extent_of s) (extent_of (f 0)) = subst (λ (x : Cost). IsAtMost (extent_of x) (extent_of (f 0))) (a (suc p) (omega arith)) (below_first f h (suc p)) in
        ap (λ (x : ℕ → Cost). merged f x (suc k)) (λ i m. b m (omega arith) i) ∙ merged_flat_right u f first (suc k)
        ∙ sym (by_tails (is_less s u) refl low range first)
      where
        by_tails : (t : Bool) → is_less s u ≡ t → IsAtMost (extent_of s) (extent_of (f 0)) → is_in_range u ≡ true → is_less (f 0) u ≡ true → larger_of s u ≡ u
        by_tails true e low range first = larger_right s u e
        by_tails false e low range first =
            let above : IsAtMost (extent_of u) (extent_of s) = at_most_of s u range e in
            absurd (true≢false (sym first ∙ not_less (f 0) u (h.range 0) (at_most_trans (extent_of u) (extent_of s) (extent_of (f 0)) above low)))
union_past (suc p) (suc q) f g s u h j a b zero le = absurd (omega (arith, le))
union_past (suc p) (suc q) f g s u h j a b (suc k) le =
    by (union_past (suc p) q f (λ i. g (suc i)) s u h (next g j) a (shifted q g u b) k (omega (arith, le))) (union_past p (suc q) (λ i. f (suc i)) g s u (next f h) j (shifted p f s a) b k (omega (arith, le))) (is_less (f 0) (g 0)) refl
  where
    by : merged f (λ i. g (suc i)) k ≡ larger_of s u → merged (λ i. f (suc i)) g k ≡ larger_of s u → (t : Bool) → is_less (f 0) (g 0) ≡ t → merged f g (suc k) ≡ larger_of s u
    by one two true e = merged_right f g k e ∙ one
    by one two false e = merged_left f g k e ∙ two

-- lists of lists
abbrev pub last_of_all : List CostList → Cost
last_of_all [] = Fin 0
last_of_all (c ∷ []) = c.tail
last_of_all (c ∷ d ∷ cs) = larger_of c.tail (last_of_all (d ∷ cs))

list_falls : (c : CostList) → descends c.runs c.tail ≡ true → Falls (place c)
list_falls c h = record { falls = place_falls c.runs c.tail h; range = place_in_range c.runs c.tail h }

head_descends : (c : CostList) (cs : List CostList) → all_descend (c ∷ cs) ≡ true → descends c.runs c.tail ≡ true
head_descends c cs h = and_left (descends c.runs c.tail) (all_descend cs) h

rest_descend : (c : CostList) (cs : List CostList) → all_descend (c ∷ cs) ≡ true → all_descend cs ≡ true
rest_descend c cs h = and_right (descends c.runs c.tail) (all_descend cs) h

pub united_falls : (cs : List CostList) → all_descend cs ≡ true → Falls (united cs)
united_falls [] h = record { falls = λ k. less_self (Fin 0); range = λ k. refl }
united_falls (c ∷ []) h = list_falls c (head_descends c [] h)
united_falls (c ∷ d ∷ cs) h = merged_fall (place c) (united (d ∷ cs)) (list_falls c (head_descends c (d ∷ cs) h)) (united_falls (d ∷ cs) (rest_descend c (d ∷ cs) h))

united_past : (cs : List CostList) → all_descend cs ≡ true → StaysFrom (all_places cs) (united cs) (last_of_all cs)
united_past [] h k le = refl
united_past (c ∷ []) h k le = place_past c k (omega (arith, le))
united_past (c ∷ d ∷ cs) h k le =
    union_past (places c.runs) (all_places (d ∷ cs)) (place c) (united (d ∷ cs)) c.tail (last_of_all (d ∷ cs)) (list_falls c (head_descends c (d ∷ cs) h)) (united_falls (d ∷ cs) (rest_descend c (d ∷ cs) h))
    (place_past c) (united_past (d ∷ cs) (rest_descend c (d ∷ cs) h)) k le

-- the greatest sum over all ways to share out among lists
abbrev pub best_of : List CostList → ℕ → Extent
best_of [] n = Finite 0
best_of (c ∷ cs) n = best (prefix_sum c) (best_of cs) n n

united_best : (c : CostList) (cs : List CostList) → all_descend (c ∷ cs) ≡ true → (n : ℕ) → sum_first (united (c ∷ cs)) n ≡ best_of (c ∷ cs) n
united_best c [] h n = sym (unit_right (prefix_sum c) (sum_more (place c)) n)
united_best c (d ∷ cs) h n =
    let f = list_falls c (head_descends c (d ∷ cs) h) in
    let g = united_falls (d ∷ cs) (rest_descend c (d ∷ cs) h) in
    merged_is_best n (place c) (united (d ∷ cs)) f.falls g.falls f.range g.range
    ∙ ap (λ (x : ℕ → Extent). best (prefix_sum c) x n n) (λ i k. united_best d cs (rest_descend c (d ∷ cs) h) k i)

pub union_costs : (c : CostList) (cs : List CostList) → all_descend (c ∷ cs) ≡ true → (n : ℕ) → prefix_sum (list_of (all_places (c ∷ cs)) (united (c ∷ cs))) n ≡ best_of (c ∷ cs) n
union_costs c cs h n =
    let past = united_past (c ∷ cs) h in
    sum_first_same (place (list_of (all_places (c ∷ cs)) (united (c ∷ cs)))) (united (c ∷ cs)) n
    (λ k less. list_of_place (all_places (c ∷ cs)) (united (c ∷ cs)) (λ j le. past j le ∙ sym (past (all_places (c ∷ cs)) (omega arith))) k)
    ∙ united_best c cs h n
