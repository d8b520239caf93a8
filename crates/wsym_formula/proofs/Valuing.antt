-- Lists of costs that stand for terms: by variant, and over a table.
use Rattle.std.proofs.Common.{◌≡◌, ℕ, zero, suc, ◌+◌, ◌-◌, ◌*◌, ◌^◌, ◌<◌, ◌≤◌, ◌++◌, List, [], ◌∷◌, length, map, get_or, take, drop, Result, Ok, Err, IfOk, refl, sym, ap, subst, ◌∙◌, arith, take-append-drop}
use Rattle.std.proofs.lemmas.List.{length-append}
use Rattle.wsym_terms.specs.Extents.{Extent, Finite, Infinite, plus, times, if_any}
use Rattle.wsym_terms.specs.Costs.{cost_of, extent_of, sum_of}
use Rattle.wsym_terms.specs.Bounds.{exact_cost}
use Rattle.wsym_terms.specs.Trees.{best}
use Rattle.wsym_terms.specs.declared.costs.Cost.{Cost}
use Rattle.wsym_terms.specs.declared.costs.Cost.TheVariants.{Fin, Unbounded}
use Rattle.wsym_terms.proofs.ExtentLaws.{plus_nothing, nothing_plus}
use Rattle.cost_multiset.specs.CostLists.{CostList, place, places, prefix_sum, sum_first, from, grouped}
use Rattle.cost_multiset.proofs.SumLaws.{sum_first_same, sum_first_constant}
use Rattle.wsym_formula.specs.Terms.{sum_at, shared_at, power_at, scaled_at, level_value, term_value}
use Rattle.wsym_formula.specs.Values.{AllStand, Stands, IsMade, costs_at, counts_of, zero_costs, level_counts, places_at, prefixes, total}
use Rattle.wsym_formula.specs.Tables.{term_at, opened, AllBelow, IsBelow}
use Rattle.wsym_formula.specs.declared.nodes.Node.{Node}
use Rattle.wsym_formula.specs.declared.nodes.Node.TheVariants as node
use Rattle.wsym_formula.specs.declared.terms.Term.{Term, fold-roll-Term, roll-Term}
use Rattle.wsym_formula.specs.declared.terms.Term.TheBlock.{the_family, member-Term}
use Rattle.wsym_formula.specs.declared.terms.Term.TheFolds.{claims, map-Term}
use Rattle.wsym_formula.specs.declared.terms.Term.TheOpen.{Term-F}
use Rattle.wsym_formula.specs.declared.terms.Term.TheVariants as t
use Rattle.wsym_formula.proofs.Clipping.{Alike, alike_plus, alike_clip, alike_best, alike_times, sum_of_sums, sum_of_groups}
use Rattle.wsym_formula.proofs.Splitting.{sum_append, shared_append}

-- members in two parts
pub halves_whole : (mid : ℕ) (ms xs ys : List ℕ) → xs ≡ take mid ms → ys ≡ drop mid ms → ms ≡ xs ++ ys
halves_whole mid ms xs ys p q = sym (take-append-drop mid ms) ∙ (λ i. sym p i ++ sym q i)

below_parts : (k : ℕ) (xs ys : List ℕ) → AllBelow k (xs ++ ys) → AllBelow k xs × AllBelow k ys
below_parts k [] ys b = (tt, b)
below_parts k (x ∷ xs) ys b = let r = below_parts k xs ys b.1 in ((b.0, r.0), r.1)

pub front_below : (k : ℕ) (ms xs ys : List ℕ) → ms ≡ xs ++ ys → AllBelow k ms → AllBelow k xs
front_below k ms xs ys e b = (below_parts k xs ys (subst (λ (l : List ℕ). AllBelow k l) e b)).0

pub back_below : (k : ℕ) (ms xs ys : List ℕ) → ms ≡ xs ++ ys → AllBelow k ms → AllBelow k ys
back_below k ms xs ys e b = (below_parts k xs ys (subst (λ (l : List ℕ). AllBelow k l) e b)).1

places_parts : (vs : List CostList) (xs ys : List ℕ) → places_at vs (xs ++ ys) ≡ places_at vs xs + places_at vs ys
places_parts vs [] ys = omega arith
places_parts vs (x ∷ xs) ys = omega (arith, places_parts vs xs ys)

places_whole : (vs : List CostList) (ms xs ys : List ℕ) → ms ≡ xs ++ ys → places_at vs ms ≡ places_at vs xs + places_at vs ys
places_whole vs ms xs ys e = ap (places_at vs) e ∙ places_parts vs xs ys

pub front_room : (vs : List CostList) (ms xs ys : List ℕ) → ms ≡ xs ++ ys → places_at vs ms < 2 ^ 63 → places_at vs xs < 2 ^ 63
front_room vs ms xs ys e h = omega (arith, h, places_whole vs ms xs ys e)

pub back_room : (vs : List CostList) (ms xs ys : List ℕ) → ms ≡ xs ++ ys → places_at vs ms < 2 ^ 63 → places_at vs ys < 2 ^ 63
back_room vs ms xs ys e h = omega (arith, h, places_whole vs ms xs ys e)

pub both_room : (parts : List (ℕ → Extent) → ℕ → Extent) (vs : List CostList) (ms xs ys : List ℕ) (a b : CostList) → ms ≡ xs ++ ys → places_at vs ms < 2 ^ 63 → IsMade parts vs xs a → IsMade parts vs ys b
    → places a.runs + places b.runs < 2 ^ 63
both_room parts vs ms xs ys a b e h p q = omega (arith, h, p.few, q.few, places_whole vs ms xs ys e)

prefixes_parts : (vs : List CostList) (xs ys : List ℕ) → prefixes vs (xs ++ ys) ≡ prefixes vs xs ++ prefixes vs ys
prefixes_parts vs [] ys = refl
prefixes_parts vs (x ∷ xs) ys = ap (λ (l : List (ℕ → Extent)). prefix_sum (costs_at vs x) ∷ l) (prefixes_parts vs xs ys)

pub zero_first : (n : ℕ) → sum_first (λ _. Fin 0) n ≡ Finite 0
zero_first zero = refl
zero_first (suc n) = plus_nothing (sum_first (λ _. Fin 0) n) ∙ zero_first n

pub no_sum : (vs : List CostList) (ms : List ℕ) (c : CostList) → length ms < 1 → c ≡ zero_costs → IsMade sum_at vs ms c
no_sum vs [] c h e = subst (λ (x : CostList). IsMade sum_at vs [] x) (sym e) (record { cost = λ n. ap cost_of (sym (zero_first n)); few = omega arith })
no_sum vs (m ∷ ms) c h e = absurd (omega (arith, h))

pub no_share : (vs : List CostList) (ms : List ℕ) (c : CostList) → length ms < 1 → c ≡ zero_costs → IsMade shared_at vs ms c
no_share vs [] c h e = subst (λ (x : CostList). IsMade shared_at vs [] x) (sym e) (record { cost = λ n. ap cost_of (sym (zero_first n)); few = omega arith })
no_share vs (m ∷ ms) c h e = absurd (omega (arith, h))

made_sum : (vs : List CostList) (ms xs ys : List ℕ) (a b c : CostList) → ms ≡ xs ++ ys → IsMade sum_at vs xs a → IsMade sum_at vs ys b
    → ((k : ℕ) → place c k ≡ sum_of (place a k) (place b k)) → places c.runs ≤ places a.runs + places b.runs → IsMade sum_at vs ms c
made_sum vs ms xs ys a b c e p q same few = record {
  cost = λ n.
      ap (λ (l : List ℕ). cost_of (sum_at (prefixes vs l) n)) e
      ∙ ap (λ (l : List (ℕ → Extent)). cost_of (sum_at l n)) (prefixes_parts vs xs ys)
      ∙ ap cost_of (sum_append (prefixes vs xs) (prefixes vs ys) n)
      ∙ alike_plus (sum_at (prefixes vs xs) n) (sum_at (prefixes vs ys) n) (prefix_sum a n) (prefix_sum b n) (p.cost n) (q.cost n)
      ∙ sym (sum_of_sums (place a) (place b) n)
      ∙ ap cost_of (sym (sum_first_same (place c) (λ k. sum_of (place a k) (place b k)) n (λ k less. same k)));
  few = omega (arith, few, p.few, q.few, places_whole vs ms xs ys e);
}

pub ok_sum : {E : Type 0} (r : Result CostList E) (vs : List CostList) (ms xs ys : List ℕ) (a b : CostList) → ms ≡ xs ++ ys → IsMade sum_at vs xs a → IsMade sum_at vs ys b
    → IfOk r (λ c. (k : ℕ) → place c k ≡ sum_of (place a k) (place b k)) → IfOk r (λ c. places c.runs ≤ places a.runs + places b.runs) → IfOk r (IsMade sum_at vs ms)
ok_sum (Ok c) vs ms xs ys a b e p q same few = made_sum vs ms xs ys a b c e p q same few
ok_sum (Err x) vs ms xs ys a b e p q same few = tt

shared_parts : (vs : List CostList) (xs ys : List ℕ) (n : ℕ) → 0 < length xs → 0 < length ys → shared_at (prefixes vs (xs ++ ys)) n ≡ best (shared_at (prefixes vs xs)) (shared_at (prefixes vs ys)) n n
shared_parts vs [] ys n h j = absurd (omega (arith, h))
shared_parts vs (x ∷ xs) [] n h j = absurd (omega (arith, j))
shared_parts vs (x ∷ xs) (y ∷ ys) n h j =
    ap (λ (l : List (ℕ → Extent)). shared_at l n) (prefixes_parts vs (x ∷ xs) (y ∷ ys))
    ∙ shared_append (prefix_sum (costs_at vs x)) (prefixes vs xs) (prefix_sum (costs_at vs y)) (prefixes vs ys) n

made_union : (vs : List CostList) (ms xs ys : List ℕ) (a b c : CostList) → ms ≡ xs ++ ys → 0 < length xs → 0 < length ys → IsMade shared_at vs xs a → IsMade shared_at vs ys b
    → ((n : ℕ) → prefix_sum c n ≡ best (prefix_sum a) (prefix_sum b) n n) → places c.runs ≤ places a.runs + places b.runs → IsMade shared_at vs ms c
made_union vs ms xs ys a b c e h j p q same few = record {
  cost = λ n.
      ap (λ (l : List ℕ). cost_of (shared_at (prefixes vs l) n)) e
      ∙ ap cost_of (shared_parts vs xs ys n h j)
      ∙ alike_best (shared_at (prefixes vs xs)) (shared_at (prefixes vs ys)) (prefix_sum a) (prefix_sum b) p.cost q.cost n n
      ∙ ap cost_of (sym (same n));
  few = omega (arith, few, p.few, q.few, places_whole vs ms xs ys e);
}

pub ok_union : {E : Type 0} (r : Result CostList E) (vs : List CostList) (ms xs ys : List ℕ) (a b : CostList) → ms ≡ xs ++ ys → 0 < length xs → 0 < length ys → IsMade shared_at vs xs a → IsMade shared_at vs ys b
    → IfOk r (λ c. (n : ℕ) → prefix_sum c n ≡ best (prefix_sum a) (prefix_sum b) n n) → IfOk r (λ c. places c.runs ≤ places a.runs + places b.runs) → IfOk r (IsMade shared_at vs ms)
ok_union (Ok c) vs ms xs ys a b e h j p q same few = made_union vs ms xs ys a b c e h j p q same few
ok_union (Err x) vs ms xs ys a b e h j p q same few = tt

-- values and counts, variant by variant
module _ (bounds : ℕ → Extent) where
  abbrev pub V : Term → ℕ → Extent
  V = term_value bounds

  opens : (y : Term-F Term) (u : Term) → roll-Term y ≡ u → V u ≡ level_value bounds (map-Term Term (ℕ → Extent) V y)
  opens y u e = ap V (sym e) ∙ fold-roll-Term (ℕ → Extent) (level_value bounds) y

  pub value_const : (c : CostList) → V (t.Const c) ≡ if_any (prefix_sum c)
  value_const c = opens (Term-F.Const c) (t.Const c) (t.rolls-Const c)

  pub value_sum : (us : List Term) → V (t.Sum us) ≡ if_any (sum_at (map V us))
  value_sum us = opens (Term-F.Sum us) (t.Sum us) (t.rolls-Sum us)

  pub value_alt : (us : List Term) → V (t.Alt us) ≡ if_any (shared_at (map V us))
  value_alt us = opens (Term-F.Alt us) (t.Alt us) (t.rolls-Alt us)

  pub value_power : (id : ℕ) (u : Term) → V (t.Power id u) ≡ if_any (power_at (bounds id) (V u))
  value_power id u = opens (Term-F.Power id u) (t.Power id u) (t.rolls-Power id u)

  pub value_once : (u : Term) → V (t.Once u) ≡ if_any (λ n. times n (V u 1))
  value_once u = opens (Term-F.Once u) (t.Once u) (t.rolls-Once u)

  pub value_scaled : (id : ℕ) (u : Term) → V (t.Scaled id u) ≡ if_any (scaled_at (bounds id) (V u))
  value_scaled id u = opens (Term-F.Scaled id u) (t.Scaled id u) (t.rolls-Scaled id u)

pub counts_open : (y : Term-F Term) (u : Term) → roll-Term y ≡ u → counts_of u ≡ level_counts (map-Term Term ℕ counts_of y)
counts_open y u e = ap counts_of (sym e) ∙ fold-roll-Term ℕ level_counts y

-- none cost nothing on either side
any_alike : (f g : ℕ → Extent) → g 0 ≡ Finite 0 → ((n : ℕ) → Alike (f (suc n)) (g (suc n))) → (n : ℕ) → Alike (if_any f n) (g n)
any_alike f g e h zero = ap cost_of (sym e)
any_alike f g e h (suc n) = h n

pub power_alike : (e : Extent) (f : ℕ → Extent) (v c : CostList) → ((n : ℕ) → Alike (f n) (prefix_sum v n)) → ((k : ℕ) → place c k ≡ grouped (exact_cost e) (place v) k) → (n : ℕ) → Alike (if_any (power_at e f) n) (prefix_sum c n)
power_alike Infinite f v c h same = any_alike (power_at Infinite f) (prefix_sum c) refl (λ n. ap (λ (x : Cost). cost_of (plus (extent_of x) (sum_first (λ k. place c (suc k)) n))) (sym (same 0)))
power_alike (Finite b) f v c h same = any_alike (power_at (Finite b) f) (prefix_sum c) refl (λ n.
    let turned : suc n * b ≡ b * suc n = grind arith in
    h (suc n * b) ∙ ap (λ (m : ℕ). cost_of (prefix_sum v m)) turned ∙ sym (sum_of_groups (place v) b (suc n))
    ∙ ap cost_of (sym (sum_first_same (place c) (grouped (Fin b) (place v)) (suc n) (λ k less. same k))))

-- a list of one cost, for each execution alone
flat_alike : (e : Extent) (x : Cost) (n : ℕ) → cost_of e ≡ x → Alike (times n e) (prefix_sum (record { runs = []; tail = x }) n)
flat_alike e x n h =
    alike_times n e (extent_of x) (sym (alike_clip e) ∙ ap (λ (y : Cost). cost_of (extent_of y)) h)
    ∙ ap cost_of (sym (sum_first_constant (λ _. x) x n (λ k less. refl)))

first_of : (c : CostList) → prefix_sum c 1 ≡ extent_of (place c 0)
first_of c = nothing_plus (extent_of (place c 0))

pub once_alike : (f : ℕ → Extent) (v : CostList) (x : Cost) → Alike (f 1) (prefix_sum v 1) → x ≡ cost_of (prefix_sum v 1) → (n : ℕ) → Alike (if_any (λ m. times m (f 1)) n) (prefix_sum (record { runs = []; tail = x }) n)
once_alike f v x h is = any_alike (λ m. times m (f 1)) (prefix_sum (record { runs = []; tail = x })) refl (λ n. flat_alike (f 1) x (suc n) (h ∙ sym is))

pub scaled_alike : (e : Extent) (f : ℕ → Extent) (v c : CostList) (x : Cost) → ((n : ℕ) → Alike (f n) (prefix_sum v n)) → ((k : ℕ) → place c k ≡ grouped (exact_cost e) (place v) k) → x ≡ cost_of (prefix_sum c 1)
    → (n : ℕ) → Alike (if_any (scaled_at e f) n) (prefix_sum (record { runs = []; tail = x }) n)
scaled_alike Infinite f v c x h same is = any_alike (scaled_at Infinite f) (prefix_sum (record { runs = []; tail = x })) refl
    (λ n. let all : x ≡ Unbounded = is ∙ ap cost_of (first_of c) ∙ ap (λ (y : Cost). cost_of (extent_of y)) (same 0) in ap (λ (y : Cost). cost_of (plus (extent_of y) (sum_first (λ _. x) n))) (sym all))
scaled_alike (Finite b) f v c x h same is = any_alike (scaled_at (Finite b) f) (prefix_sum (record { runs = []; tail = x })) refl
    (λ n.
    let start : b * 1 ≡ b = omega arith in
    let one : Alike (prefix_sum c 1) (prefix_sum v b) =
    ap cost_of (sum_first_same (place c) (grouped (Fin b) (place v)) 1 (λ k less. same k)) ∙ sum_of_groups (place v) b 1 ∙ ap (λ (m : ℕ). cost_of (prefix_sum v m)) start in
    flat_alike (f b) x (suc n) (h b ∙ sym one ∙ sym is))

-- places of lists of values and terms
pub stand_length : (b : ℕ → Extent) (vs : List CostList) (ts : List Term) → AllStand b vs ts → length vs ≡ length ts
stand_length b [] [] h = refl
stand_length b [] (t ∷ ts) h = absurd h
stand_length b (v ∷ vs) [] h = absurd h
stand_length b (v ∷ vs) (t ∷ ts) h = ap suc (stand_length b vs ts h.1)

pub stand_at : (b : ℕ → Extent) (vs : List CostList) (ts : List Term) (k : ℕ) (d : CostList) → AllStand b vs ts → k < length vs → Stands b (get_or vs k d) (term_at ts k)
stand_at b [] ts k d h lt = absurd (omega (arith, lt))
stand_at b (v ∷ vs) [] k d h lt = absurd h
stand_at b (v ∷ vs) (t ∷ ts) zero d h lt = h.0
stand_at b (v ∷ vs) (t ∷ ts) (suc k) d h lt = stand_at b vs ts k d h.1 (omega (arith, lt))

pub stand_more : (b : ℕ → Extent) (vs : List CostList) (ts : List Term) (v : CostList) (t : Term) → AllStand b vs ts → Stands b v t → AllStand b (vs ++ v ∷ []) (ts ++ t ∷ [])
stand_more b [] [] v t h s = (s, tt)
stand_more b [] (u ∷ ts) v t h s = absurd h
stand_more b (w ∷ vs) [] v t h s = absurd h
stand_more b (w ∷ vs) (u ∷ ts) v t h s = (h.0, stand_more b vs ts v t h.1 s)

pub members_few : (b : ℕ → Extent) (vs : List CostList) (ts : List Term) (ms : List ℕ) → AllBelow (length vs) ms → AllStand b vs ts → places_at vs ms ≤ total (map counts_of (map (term_at ts) ms))
members_few b vs ts [] below h = omega arith
members_few b vs ts (m ∷ ms) below h = omega (arith, (stand_at b vs ts m zero_costs h below.0).few, members_few b vs ts ms below.1 h)

sums_alike : (b : ℕ → Extent) (vs : List CostList) (ts : List Term) (ms : List ℕ) → AllBelow (length vs) ms → AllStand b vs ts → (n : ℕ) → Alike (sum_at (map (term_value b) (map (term_at ts) ms)) n) (sum_at (prefixes vs ms) n)
sums_alike b vs ts [] below h n = refl
sums_alike b vs ts (m ∷ ms) below h n =
    alike_plus (term_value b (term_at ts m) n) (sum_at (map (term_value b) (map (term_at ts) ms)) n) (prefix_sum (costs_at vs m) n) (sum_at (prefixes vs ms) n)
    ((stand_at b vs ts m zero_costs h below.0).cost n) (sums_alike b vs ts ms below.1 h n)

shares_alike : (b : ℕ → Extent) (vs : List CostList) (ts : List Term) (ms : List ℕ) → AllBelow (length vs) ms → AllStand b vs ts → (n : ℕ) → Alike (shared_at (map (term_value b) (map (term_at ts) ms)) n) (shared_at (prefixes vs ms) n)
shares_alike b vs ts [] below h n = refl
shares_alike b vs ts (m ∷ []) below h n = (stand_at b vs ts m zero_costs h below.0).cost n
shares_alike b vs ts (m ∷ k ∷ ms) below h n =
    alike_best (term_value b (term_at ts m)) (shared_at (map (term_value b) (map (term_at ts) (k ∷ ms)))) (prefix_sum (costs_at vs m)) (shared_at (prefixes vs (k ∷ ms)))
    (stand_at b vs ts m zero_costs h below.0).cost (shares_alike b vs ts (k ∷ ms) below.1 h) n n

-- a node over its members
module _ (b : ℕ → Extent) (vs : List CostList) (ts : List Term) (c : CostList) (n : Node) (below : IsBelow (length vs) n) (h : AllStand b vs ts) where
  own : (m : Node) → n ≡ m → IsBelow (length vs) m
  own m is = subst (λ (x : Node). IsBelow (length vs) x) is below

  back : (m : Node) → n ≡ m → Stands b c (opened ts m) → Stands b c (opened ts n)
  back m is s = subst (λ (x : Node). Stands b c (opened ts x)) (sym is) s

  pub node_const : (d : CostList) → n ≡ node.Const d → c ≡ d → Stands b c (opened ts n)
  node_const d is same = back (node.Const d) is (record {
    cost = λ k. ap (λ (f : ℕ → Extent). cost_of (f k)) (value_const b d) ∙ any_alike (prefix_sum d) (prefix_sum c) refl (λ j. ap (λ (x : CostList). cost_of (prefix_sum x (suc j))) (sym same)) k;
    few = omega (arith, ap (λ (x : CostList). places x.runs) same, counts_open (Term-F.Const d) (t.Const d) (t.rolls-Const d));
  })

  pub node_sum : (ms : List ℕ) → n ≡ node.Sum ms → IsMade sum_at vs ms c → Stands b c (opened ts n)
  node_sum ms is made =
      let us : List Term = map (term_at ts) ms in
      back (node.Sum ms) is (record {
        cost = λ k. ap (λ (f : ℕ → Extent). cost_of (f k)) (value_sum b us) ∙ any_alike (sum_at (map (term_value b) us)) (prefix_sum c) refl (λ j. sums_alike b vs ts ms (own (node.Sum ms) is) h (suc j) ∙ made.cost (suc j)) k;
        few = omega (arith, made.few, members_few b vs ts ms (own (node.Sum ms) is) h, counts_open (Term-F.Sum us) (t.Sum us) (t.rolls-Sum us));
      })

  pub node_alt : (ms : List ℕ) → n ≡ node.Alt ms → IsMade shared_at vs ms c → Stands b c (opened ts n)
  node_alt ms is made =
      let us : List Term = map (term_at ts) ms in
      back (node.Alt ms) is (record {
        cost = λ k. ap (λ (f : ℕ → Extent). cost_of (f k)) (value_alt b us) ∙ any_alike (shared_at (map (term_value b) us)) (prefix_sum c) refl (λ j. shares_alike b vs ts ms (own (node.Alt ms) is) h (suc j) ∙ made.cost (suc j)) k;
        few = omega (arith, made.few, members_few b vs ts ms (own (node.Alt ms) is) h, counts_open (Term-F.Alt us) (t.Alt us) (t.rolls-Alt us));
      })

  pub node_power : (id body : ℕ) (v : CostList) → n ≡ node.Power id body → v ≡ get_or vs body v → ((k : ℕ) → place c k ≡ grouped (exact_cost (b id)) (place v) k) → places c.runs ≤ places v.runs → Stands b c (opened ts n)
  node_power id body v is at same few =
      let u : Term = term_at ts body in
      let s : Stands b v u = subst (λ (x : CostList). Stands b x u) (sym at) (stand_at b vs ts body v h (own (node.Power id body) is)) in
      back (node.Power id body) is (record {
        cost = λ k. ap (λ (f : ℕ → Extent). cost_of (f k)) (value_power b id u) ∙ power_alike (b id) (term_value b u) v c s.cost same k;
        few = omega (arith, few, s.few, counts_open (Term-F.Power id u) (t.Power id u) (t.rolls-Power id u));
      })

  pub node_once : (body : ℕ) (v : CostList) (x : Cost) → n ≡ node.Once body → v ≡ get_or vs body v → x ≡ cost_of (prefix_sum v 1) → c ≡ record { runs = []; tail = x } → Stands b c (opened ts n)
  node_once body v x is at first flat =
      let u : Term = term_at ts body in
      let s : Stands b v u = subst (λ (w : CostList). Stands b w u) (sym at) (stand_at b vs ts body v h (own (node.Once body) is)) in
      back (node.Once body) is (subst (λ (w : CostList). Stands b w (t.Once u)) (sym flat) (record {
        cost = λ k. ap (λ (f : ℕ → Extent). cost_of (f k)) (value_once b u) ∙ once_alike (term_value b u) v x (s.cost 1) first k;
        few = omega arith;
      }))

  pub node_scaled : (id body : ℕ) (v g : CostList) (x : Cost) → n ≡ node.Scaled id body → v ≡ get_or vs body v → ((k : ℕ) → place g k ≡ grouped (exact_cost (b id)) (place v) k) → x ≡ cost_of (prefix_sum g 1)
      → c ≡ record { runs = []; tail = x } → Stands b c (opened ts n)
  node_scaled id body v g x is at same first flat =
      let u : Term = term_at ts body in
      let s : Stands b v u = subst (λ (w : CostList). Stands b w u) (sym at) (stand_at b vs ts body v h (own (node.Scaled id body) is)) in
      back (node.Scaled id body) is (subst (λ (w : CostList). Stands b w (t.Scaled id u)) (sym flat) (record {
        cost = λ k. ap (λ (f : ℕ → Extent). cost_of (f k)) (value_scaled b id u) ∙ scaled_alike (b id) (term_value b u) v g x s.cost same first k;
        few = omega arith;
      }))

pub ok_node_power : {E : Type 0} (r : Result CostList E) (b : ℕ → Extent) (vs : List CostList) (n : Node) (id body : ℕ) (v : CostList) (by : Cost) → IsBelow (length vs) n → n ≡ node.Power id body → v ≡ get_or vs body v → by ≡ exact_cost (b id)
    → IfOk r (λ c. (k : ℕ) → place c k ≡ grouped by (place v) k) → IfOk r (λ c. places c.runs ≤ places v.runs) → IfOk r (λ c. (ts : List Term) → AllStand b vs ts → Stands b c (opened ts n))
ok_node_power (Ok c) b vs n id body v by below is at turns same few = λ ts h. node_power b vs ts c n below h id body v is at (λ k. same k ∙ ap (λ (x : Cost). grouped x (place v) k) turns) few
ok_node_power (Err e) b vs n id body v by below is at turns same few = tt
