-- The constants of some members as one, by halves.
use Rattle.std.proofs.Common.{◌≡◌, ℕ, ◌+◌, ◌^◌, ◌≤◌, ◌<◌, ◌++◌, Bool, true, false, ◌&&◌, nat_lt, List, [], ◌∷◌, length, map, get_or, Option, Some, None, Result, Ok, Err, IfOk, refl, sym, ap, subst, ◌∙◌, arith}
use Rattle.std.proofs.lemmas.List.{append-nil, length-append, map-append}
use Rattle.wsym_terms.specs.Extents.{Extent, plus}
use Rattle.wsym_terms.specs.Costs.{cost_of, extent_of, is_in_range, sum_of}
use Rattle.wsym_terms.specs.declared.costs.Cost.{Cost}
use Rattle.wsym_terms.proofs.CostLaws.{clip_plus, plus_clip, cost_in_range, cost_of_extent}
use Rattle.wsym_terms.proofs.ExtentLaws.{plus_assoc, plus_nothing, nothing_plus}
use Rattle.cost_multiset.specs.CostLists.{CostList, descends, merged, place, places}
use Rattle.cost_multiset.specs.Gathered.{all_counted, list_of}
use Rattle.cost_multiset.proofs.PlaceLaws.{place_in_range}
use Rattle.simplifier.specs.Normal.{all_descend, all_places, constant, constants, summed, united, with_constant}
use Rattle.wsym_formula.specs.declared.terms.Term.{Term}
use Rattle.simplifier.specs.Simplified.{IsSummed, IsJointly, IsUnited, descends_if, places_if, some_if, leading_sum, leading_union}
use Rattle.simplifier.proofs.Merging.{united_append}

pub constants_append : (us ws : List Term) → constants (us ++ ws) ≡ constants us ++ constants ws
constants_append [] ws = refl
constants_append (u ∷ us) ws = by (constants_append us ws) (constant u)
  where
    by : constants (us ++ ws) ≡ constants us ++ constants ws → (o : Option CostList) → with_constant o (constants (us ++ ws)) ≡ with_constant o (constants us) ++ constants ws
    by h None = h
    by h (Some c) = ap (λ (l : List CostList). c ∷ l) h

all_places_append : (xs ys : List CostList) → all_places (xs ++ ys) ≡ all_places xs + all_places ys
all_places_append [] ys = omega arith
all_places_append (c ∷ xs) ys = omega (arith, all_places_append xs ys)

summed_in_range : (lists : List CostList) (k : ℕ) → is_in_range (summed lists k) ≡ true
summed_in_range [] k = refl
summed_in_range (c ∷ lists) k = cost_in_range (plus (extent_of (place c k)) (extent_of (summed lists k)))

summed_append : (xs ys : List CostList) (k : ℕ) → summed (xs ++ ys) k ≡ sum_of (summed xs k) (summed ys k)
summed_append [] ys k = sym (ap cost_of (plus_nothing (extent_of (summed ys k))) ∙ cost_of_extent (summed ys k) (summed_in_range ys k))
summed_append (c ∷ xs) ys k =
    let a : Extent = extent_of (place c k) in
    let x : Extent = extent_of (summed xs k) in
    let y : Extent = extent_of (summed ys k) in
    ap (sum_of (place c k)) (summed_append xs ys k) ∙ plus_clip a (plus x y) ∙ sym (clip_plus (plus a x) y ∙ ap cost_of (plus_assoc a x y))

descend_append : (xs ys : List CostList) → all_descend xs ≡ true → all_descend ys ≡ true → all_descend (xs ++ ys) ≡ true
descend_append [] ys h j = j
descend_append (c ∷ xs) ys h j = by (λ r. descend_append xs ys r j) (descends c.runs c.tail) h
  where
    by : (all_descend xs ≡ true → all_descend (xs ++ ys) ≡ true) → (t : Bool) → (t && all_descend xs) ≡ true → (t && all_descend (xs ++ ys)) ≡ true
    by more true h = more h
    by more false h = h

-- the constants of members in two parts
pub whole : (f : ℕ → Term) (ms xs ys : List ℕ) → ms ≡ xs ++ ys → constants (map f ms) ≡ constants (map f xs) ++ constants (map f ys)
whole f ms xs ys e = ap (λ (l : List ℕ). constants (map f l)) e ∙ ap constants (map-append f xs ys) ∙ constants_append (map f xs) (map f ys)

whole_places : (f : ℕ → Term) (ms xs ys : List ℕ) → ms ≡ xs ++ ys → all_places (constants (map f ms)) ≡ all_places (constants (map f xs)) + all_places (constants (map f ys))
whole_places f ms xs ys e = ap all_places (whole f ms xs ys e) ∙ all_places_append (constants (map f xs)) (constants (map f ys))

pub front_few : (f : ℕ → Term) (ms xs ys : List ℕ) → ms ≡ xs ++ ys → all_places (constants (map f ms)) < 2 ^ 63 → all_places (constants (map f xs)) < 2 ^ 63
front_few f ms xs ys e h = omega (arith, h, whole_places f ms xs ys e)

pub back_few : (f : ℕ → Term) (ms xs ys : List ℕ) → ms ≡ xs ++ ys → all_places (constants (map f ms)) < 2 ^ 63 → all_places (constants (map f ys)) < 2 ^ 63
back_few f ms xs ys e h = omega (arith, h, whole_places f ms xs ys e)

sums_few : (lists : List CostList) (o : Option CostList) → IsJointly IsSummed lists o → places_if o ≤ all_places lists
sums_few lists None h = omega arith
sums_few lists (Some c) h = h.1.few

unions_few : (lists : List CostList) (o : Option CostList) → IsJointly IsUnited lists o → places_if o ≤ all_places lists
unions_few lists None h = omega arith
unions_few lists (Some c) h = h.1.few

pub both_sums_few : (f : ℕ → Term) (ms xs ys : List ℕ) (a b : Option CostList) → ms ≡ xs ++ ys → all_places (constants (map f ms)) < 2 ^ 63
    → IsJointly IsSummed (constants (map f xs)) a → IsJointly IsSummed (constants (map f ys)) b → places_if a + places_if b < 2 ^ 63
both_sums_few f ms xs ys a b e h p q = omega (arith, h, whole_places f ms xs ys e, sums_few (constants (map f xs)) a p, sums_few (constants (map f ys)) b q)

pub both_unions_few : (f : ℕ → Term) (ms xs ys : List ℕ) (a b : Option CostList) → ms ≡ xs ++ ys → all_places (constants (map f ms)) < 2 ^ 63
    → IsJointly IsUnited (constants (map f xs)) a → IsJointly IsUnited (constants (map f ys)) b → places_if a + places_if b < 2 ^ 63
both_unions_few f ms xs ys a b e h p q = omega (arith, h, whole_places f ms xs ys e, unions_few (constants (map f xs)) a p, unions_few (constants (map f ys)) b q)

-- one member
one_summed : (c : CostList) → descends c.runs c.tail ≡ true → IsSummed (c ∷ []) c
one_summed c h = record {
  same = λ k. sym (ap cost_of (nothing_plus (extent_of (place c k))) ∙ cost_of_extent (place c k) (place_in_range c.runs c.tail h k));
  few = omega arith;
}

one_united : (c : CostList) → descends c.runs c.tail ≡ true → IsUnited (c ∷ []) c
one_united c h = record {
  same = λ k. refl;
  few = omega arith;
  down = ap (λ (t : Bool). t && true) h;
}

sum_alone : (o : Option CostList) → descends_if o ≡ true → IsJointly IsSummed (with_constant o []) o
sum_alone None h = refl
sum_alone (Some c) h = (omega arith, one_summed c h)

union_alone : (o : Option CostList) → descends_if o ≡ true → IsJointly IsUnited (with_constant o []) o
union_alone None h = refl
union_alone (Some c) h = (omega arith, one_united c h)

pub ok_sum_of_one : {E : Type 0} (r : Result (Option CostList) E) (f : ℕ → Term) (ms : List ℕ) (d : ℕ) → 1 ≤ length ms → length ms < 2 → IfOk r (λ o. o ≡ constant (f (get_or ms 0 d))) → IfOk r (λ o. descends_if o ≡ true)
    → IfOk r (IsJointly IsSummed (constants (map f ms)))
ok_sum_of_one (Err x) f ms d le lt e h = tt
ok_sum_of_one (Ok o) f [] d le lt e h = absurd (omega (arith, le))
ok_sum_of_one (Ok o) f (m ∷ k ∷ ms) d le lt e h = absurd (omega (arith, lt))
ok_sum_of_one (Ok o) f (m ∷ []) d le lt e h = subst (λ (x : Option CostList). IsJointly IsSummed (with_constant x []) o) e (sum_alone o h)

pub ok_union_of_one : {E : Type 0} (r : Result (Option CostList) E) (f : ℕ → Term) (ms : List ℕ) (d : ℕ) → 1 ≤ length ms → length ms < 2 → IfOk r (λ o. o ≡ constant (f (get_or ms 0 d))) → IfOk r (λ o. descends_if o ≡ true)
    → IfOk r (IsJointly IsUnited (constants (map f ms)))
ok_union_of_one (Err x) f ms d le lt e h = tt
ok_union_of_one (Ok o) f [] d le lt e h = absurd (omega (arith, le))
ok_union_of_one (Ok o) f (m ∷ k ∷ ms) d le lt e h = absurd (omega (arith, lt))
ok_union_of_one (Ok o) f (m ∷ []) d le lt e h = subst (λ (x : Option CostList). IsJointly IsUnited (with_constant x []) o) e (union_alone o h)

-- two parts, one of which may have no constant
pub jointly_right : (Is : List CostList → CostList → Type 0) (xs ys : List CostList) (o : Option CostList) → xs ≡ [] → IsJointly Is ys o → IsJointly Is (xs ++ ys) o
jointly_right Is xs ys o e h = subst (λ (l : List CostList). IsJointly Is (l ++ ys) o) (sym e) h

pub jointly_left : (Is : List CostList → CostList → Type 0) (xs ys : List CostList) (o : Option CostList) → IsJointly Is xs o → ys ≡ [] → IsJointly Is (xs ++ ys) o
jointly_left Is xs ys o h e = subst (λ (l : List CostList). IsJointly Is (xs ++ l) o) (sym e) (subst (λ (l : List CostList). IsJointly Is l o) (sym (append-nil xs)) h)

pub sums_join : (xs ys : List CostList) (a b c : CostList) → ((k : ℕ) → place c k ≡ sum_of (place a k) (place b k)) → places c.runs ≤ places a.runs + places b.runs
    → IsJointly IsSummed xs (Some a) → IsJointly IsSummed ys (Some b) → IsJointly IsSummed (xs ++ ys) (Some c)
sums_join xs ys a b c same few p q = (
  omega (arith, p.0, length-append xs ys),
  record {
    same = λ k. same k ∙ (λ i. sum_of (p.1.same k i) (q.1.same k i)) ∙ sym (summed_append xs ys k);
    few = omega (arith, few, p.1.few, q.1.few, all_places_append xs ys);
  },
)

pub unions_join : (xs ys : List CostList) (a b c : CostList) → ((k : ℕ) → place c k ≡ merged (place a) (place b) k) → places c.runs ≤ places a.runs + places b.runs
    → IsJointly IsUnited xs (Some a) → IsJointly IsUnited ys (Some b) → IsJointly IsUnited (xs ++ ys) (Some c)
unions_join xs ys a b c same few p q = (
  omega (arith, p.0, length-append xs ys),
  record {
    same = λ k. same k ∙ (λ i. merged (λ j. p.1.same j i) (λ j. q.1.same j i) k) ∙ sym (united_append xs ys k p.0 q.0);
    few = omega (arith, few, p.1.few, q.1.few, all_places_append xs ys);
    down = descend_append xs ys p.1.down q.1.down;
  },
)

-- the list that has these places is the one of the definition
abbrev pub IsItsPlaces : CostList → Type 0
IsItsPlaces c = (n : ℕ) (costs : ℕ → Cost) → places c.runs ≤ n → ((k : ℕ) → place c k ≡ costs k) → c ≡ list_of n costs

sum_is_leading : (lists : List CostList) (c : CostList) → IsItsPlaces c → IsJointly IsSummed lists (Some c) → some_if (all_counted c) c ≡ leading_sum lists
sum_is_leading [] c law h = absurd (omega (arith, h.0))
sum_is_leading (d ∷ lists) c law h = ap (λ (x : CostList). some_if (all_counted x) x) (law (all_places (d ∷ lists)) (summed (d ∷ lists)) h.1.few h.1.same)

pub sum_counted : (lists : List CostList) (c : CostList) → IsItsPlaces c → IsJointly IsSummed lists (Some c) → all_counted c ≡ true → Some c ≡ leading_sum lists
sum_counted lists c law h e = ap (λ (t : Bool). some_if t c) (sym e) ∙ sum_is_leading lists c law h

pub sum_beyond : (lists : List CostList) (c : CostList) → IsItsPlaces c → IsJointly IsSummed lists (Some c) → all_counted c ≡ false → None ≡ leading_sum lists
sum_beyond lists c law h e = ap (λ (t : Bool). some_if t c) (sym e) ∙ sum_is_leading lists c law h

pub sum_none : (lists : List CostList) → lists ≡ [] → None ≡ leading_sum lists
sum_none lists e = ap leading_sum (sym e)

pub union_none : (lists : List CostList) → lists ≡ [] → None ≡ leading_union lists
union_none lists e = ap leading_union (sym e)

pub union_leads : (lists : List CostList) (c : CostList) → IsItsPlaces c → IsJointly IsUnited lists (Some c) → nat_lt (all_places lists) (2 ^ 63) ≡ true → Some c ≡ leading_union lists
union_leads [] c law h e = absurd (omega (arith, h.0))
union_leads (d ∷ lists) c law h e =
    ap Some (law (all_places (d ∷ lists)) (united (d ∷ lists)) h.1.few h.1.same)
    ∙ sym (λ i. some_if (h.1.down i && e i) (list_of (all_places (d ∷ lists)) (united (d ∷ lists))))

pub union_not_few : (lists : List CostList) → nat_lt (all_places lists) (2 ^ 63) ≡ false → None ≡ leading_union lists
union_not_few [] e = refl
union_not_few (d ∷ lists) e = by (all_descend (d ∷ lists)) ∙ sym (λ i. some_if (all_descend (d ∷ lists) && e i) (list_of (all_places (d ∷ lists)) (united (d ∷ lists))))
  where
    by : (t : Bool) → None ≡ some_if (t && false) (list_of (all_places (d ∷ lists)) (united (d ∷ lists)))
    by true = refl
    by false = refl
