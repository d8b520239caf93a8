-- What the limit of costs does to sums, greatest sums and multiples: they depend on the clipped parts alone.
use Rattle.std.proofs.Common.{◌≡◌, ℕ, zero, suc, ◌+◌, ◌-◌, ◌*◌, ◌^◌, ◌≤◌, ◌<◌, Bool, true, false, if◌then◌else◌, nat_lt, max, refl, sym, ap, subst, ◌∙◌, arith, mul-add}
use Rattle.std.proofs.lemmas.Bool.Decides.{nat_tests}
use Rattle.wsym_terms.specs.Extents.{Extent, Finite, Infinite, plus, greater, times, if_any}
use Rattle.wsym_terms.specs.Costs.{cost_of, extent_of, sum_of}
use Rattle.wsym_terms.specs.Trees.{best}
use Rattle.wsym_terms.specs.declared.costs.Cost.{Cost}
use Rattle.wsym_terms.specs.declared.costs.Cost.TheVariants.{Fin, Beyond, Unbounded}
use Rattle.wsym_terms.proofs.CostLaws.{clip_plus, plus_clip, cost_above, cost_below}
use Rattle.wsym_terms.proofs.ExtentLaws.{plus_swap, plus_nothing, times_zero, times_suc}
use Rattle.cost_multiset.specs.CostLists.{CostList, place, sum_first, prefix_sum, from, grouped}
use Rattle.cost_multiset.proofs.SumLaws.{sum_first_same, sum_first_add, sum_first_constant}

-- the same as far as a cost says
abbrev pub Alike : Extent → Extent → Type 0
Alike a b = cost_of a ≡ cost_of b

pub alike_plus : (a b c d : Extent) → Alike a c → Alike b d → Alike (plus a b) (plus c d)
alike_plus a b c d p q =
    sym (clip_plus a b) ∙ sym (plus_clip (extent_of (cost_of a)) b)
    ∙ (λ i. cost_of (plus (extent_of (p i)) (extent_of (q i))))
    ∙ plus_clip (extent_of (cost_of c)) d ∙ clip_plus c d

pub alike_clip : (a : Extent) → Alike (extent_of (cost_of a)) a
alike_clip Infinite = refl
alike_clip (Finite n) = by_size (nat_lt n (2 ^ 127)) refl
  where
    by_size : (t : Bool) → nat_lt n (2 ^ 127) ≡ t → cost_of (extent_of (if t then Fin n else Beyond)) ≡ (if t then Fin n else Beyond)
    by_size true e = cost_below n (grind (arith, nat_tests))
    by_size false e = cost_above (2 ^ 127) (omega arith)

-- the greater of two costs, through the limit
clip_greater : (a b : Extent) → Alike (greater (extent_of (cost_of a)) (extent_of (cost_of b))) (greater a b)
clip_greater Infinite b = refl
clip_greater (Finite a) Infinite = by_size (nat_lt a (2 ^ 127))
  where
    by_size : (t : Bool) → cost_of (greater (extent_of (if t then Fin a else Beyond)) Infinite) ≡ Unbounded
    by_size true = refl
    by_size false = refl
clip_greater (Finite a) (Finite b) = by_sizes (nat_lt a (2 ^ 127)) (nat_lt b (2 ^ 127)) refl refl
  where
    by_sizes : (s t : Bool) → nat_lt a (2 ^ 127) ≡ s → nat_lt b (2 ^ 127) ≡ t → cost_of (greater (extent_of (if s then Fin a else Beyond)) (extent_of (if t then Fin b else Beyond))) ≡ cost_of (Finite (max a b))
    by_sizes true true d e = refl
    by_sizes true false d e = cost_above (max a (2 ^ 127)) (omega arith) ∙ sym (cost_above (max a b) (grind (arith, nat_tests)))
    by_sizes false true d e = cost_above (max (2 ^ 127) b) (omega arith) ∙ sym (cost_above (max a b) (grind (arith, nat_tests)))
    by_sizes false false d e = cost_above (max (2 ^ 127) (2 ^ 127)) (omega arith) ∙ sym (cost_above (max a b) (grind (arith, nat_tests)))

pub alike_greater : (a b c d : Extent) → Alike a c → Alike b d → Alike (greater a b) (greater c d)
alike_greater a b c d p q = sym (clip_greater a b) ∙ (λ i. cost_of (greater (extent_of (p i)) (extent_of (q i)))) ∙ clip_greater c d

pub alike_best : (f g p q : ℕ → Extent) → ((n : ℕ) → Alike (f n) (p n)) → ((n : ℕ) → Alike (g n) (q n)) → (k n : ℕ) → Alike (best f g k n) (best p q k n)
alike_best f g p q h j zero n = alike_plus (f 0) (g n) (p 0) (q n) (h 0) (j n)
alike_best f g p q h j (suc k) n =
    alike_greater (plus (f (suc k)) (g (n - suc k))) (best f g k n) (plus (p (suc k)) (q (n - suc k))) (best p q k n)
    (alike_plus (f (suc k)) (g (n - suc k)) (p (suc k)) (q (n - suc k)) (h (suc k)) (j (n - suc k)))
    (alike_best f g p q h j k n)

pub alike_times : (n : ℕ) (a b : Extent) → Alike a b → Alike (times n a) (times n b)
alike_times zero a b h = ap cost_of (times_zero a ∙ sym (times_zero b))
alike_times (suc n) a b h = ap cost_of (times_suc n a) ∙ alike_plus a (times n a) b (times n b) h (alike_times n a b h) ∙ ap cost_of (sym (times_suc n b))

-- the first sums of two lists are the sums of the first costs
pub sum_of_sums : (f g : ℕ → Cost) (n : ℕ) → Alike (sum_first (λ k. sum_of (f k) (g k)) n) (plus (sum_first f n) (sum_first g n))
sum_of_sums f g zero = refl
sum_of_sums f g (suc n) =
    let a = extent_of (f 0) in
    let b = extent_of (g 0) in
    let x = sum_first (λ k. f (suc k)) n in
    let y = sum_first (λ k. g (suc k)) n in
    alike_plus (extent_of (cost_of (plus a b))) (sum_first (λ k. sum_of (f (suc k)) (g (suc k))) n) (plus a b) (plus x y) (alike_clip (plus a b)) (sum_of_sums (λ k. f (suc k)) (λ k. g (suc k)) n)
    ∙ ap cost_of (plus_swap a b x y)

-- the first groups of a number of places
pub sum_of_groups : (f : ℕ → Cost) (by n : ℕ) → Alike (sum_first (grouped (Fin by) f) n) (sum_first f (by * n))
sum_of_groups f by zero = let e : by * zero ≡ zero = omega arith in ap (λ (k : ℕ). cost_of (sum_first f k)) (sym e)
sum_of_groups f by (suc n) =
    let one : by * suc n ≡ by + by * n = grind arith in
    let start : by * 0 ≡ 0 = omega arith in
    let first : sum_first (from (by * 0) f) by ≡ sum_first f by = sum_first_same (from (by * 0) f) f by (λ k less. let e : by * 0 + k ≡ k = omega arith in ap f e) in
    let rest : sum_first (λ k. grouped (Fin by) f (suc k)) n ≡ sum_first (grouped (Fin by) (from by f)) n =
    sum_first_same (λ k. grouped (Fin by) f (suc k)) (grouped (Fin by) (from by f)) n
    (λ k less. ap cost_of (sum_first_same (from (by * suc k) f) (from (by * k) (from by f)) by (λ j inner. let e : by * suc k + j ≡ by + (by * k + j) = grind arith in ap f e))) in
    ap (λ (x : Extent). cost_of (plus (extent_of (grouped (Fin by) f 0)) x)) rest
    ∙ alike_plus (extent_of (grouped (Fin by) f 0)) (sum_first (grouped (Fin by) (from by f)) n) (sum_first f by) (sum_first (from by f) (by * n))
    (alike_clip (sum_first (from (by * 0) f) by) ∙ ap cost_of first) (sum_of_groups (from by f) by n)
    ∙ ap cost_of (sym (ap (sum_first f) one ∙ sum_first_add f by (by * n)))

pub unbounded_places : (n : ℕ) → sum_first (λ _. Unbounded) (suc n) ≡ Infinite
unbounded_places n = refl
