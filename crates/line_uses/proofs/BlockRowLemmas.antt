-- Tables of a flow graph's blocks with its nest are what the search for scopes wants.
use Rattle.std.proofs.Common.{◌≡◌, ◌≢◌, ℕ, zero, suc, ◌-◌, ◌<◌, ◌≤◌, ◌⊎◌, inl, inr, true, false, List, [], ◌∷◌, ◌++◌}
use Rattle.std.proofs.Common.{length, refl, sym, ap, ◌∙◌, subst, arith}
use Rattle.std.specs.Prelude.{nat_eq, nat_lt, if◌then◌else◌, slice_index_or}
use Rattle.std.specs.List.{AllByRecursion}
use Rattle.std.proofs.lemmas.Bool.{cond-false, or_cases, or_left, or_right, eqb-true, eq-eqb, false≢true}
use Rattle.std.proofs.lemmas.Bool.Decides.{eqb_tells}
use Rattle.graph_search.specs.NodeLists.{holds}
use Rattle.graph_search.specs.Orders.{Rising}
use Rattle.graph_search.specs.Rows.{row_in}
use Rattle.graph_search.specs.Flows.{Flow, IsBounded, edge, leads}
use Rattle.graph_search.specs.Walks.{Reached}
use Rattle.interval_loops.specs.declared.nest.LoopNest.{LoopNest}
use Rattle.interval_loops.specs.Loops.{AreLoops, IsRound, flow_with}
use Rattle.interval_loops.specs.Nests.{IsNestIn, IsNestOf, around_of, depth_of, header_of, inner_of, loops_of, parent_of}
use Rattle.interval_loops.specs.Rounds.{first_or, last_or, round_by, within_by}
use Rattle.interval_loops.proofs.ClosingLemmas.{closes}
use Rattle.interval_loops.proofs.RoundLemmas.{are_loops, is_round}
use Rattle.persistence.specs.Searches.{IsStrong, Way}
use Rattle.persistence.specs.Younger.{Path}
use Rattle.line_uses.specs.BlockRows.{AreBlockRows, IsSequence, Leading, Leads}
use Rattle.line_uses.specs.PointMaps.{ArePointMaps, PointMaps, block_of, code_of, inside, loop_at}
use Rattle.line_uses.proofs.DepthLemmas.{at_place, beyond, inside_below, inside_loop}
use Rattle.line_uses.proofs.LoopPathLemmas.{round_trip}

small_or : (e l : ℕ) → (e < l) ⊎ (l ≤ e)
small_or e zero = inr (omega arith)
small_or zero (suc l) = inl (omega arith)
small_or (suc e) (suc l) =
    elim (small_or e l) as (λ _. (suc e < suc l) ⊎ (suc l ≤ suc e)) [
      | inl t ↦ inl (omega (arith, t))
      | inr t ↦ inr (omega (arith, t))
    ]

by_order : (a b : ℕ) → (a < b → ⊥) → (b < a → ⊥) → a ≡ b
by_order a b p q = grind (arith, p, q)

-- ---- ways from point to point

module _ (m : PointMaps) (d : ℕ) where
  abbrev In_loop : ℕ → Type 0
  In_loop x = inside m d x ≡ true

  abbrev Walks : ℕ → ℕ → Type 0
  Walks a q = Way (code_of m) (inside m d) a q

  abbrev Maybe : ℕ → ℕ → Type 0
  Maybe a q = (a ≡ q) ⊎ Walks a q

  path_on : (a : ℕ) (us : List ℕ) (q : ℕ) (vs : List ℕ) (b : ℕ) → Path (code_of m).next a us q → Path (code_of m).next q vs b
      → Path (code_of m).next a (vs ++ q ∷ us) b
  path_on a us q [] b p k = (k, p)
  path_on a us q (v ∷ vs) b p k = (k.0, path_on a us q vs v p k.1)

  all_on : (xs ys : List ℕ) → AllByRecursion In_loop xs → AllByRecursion In_loop ys → AllByRecursion In_loop (xs ++ ys)
  all_on [] ys h k = k
  all_on (x ∷ xs) ys h k = (h.0, all_on xs ys h.1 k)

  way_on : (a q b : ℕ) → In_loop q → Walks a q → Walks q b → Walks a b
  way_on a q b i w v = (v.0 ++ q ∷ w.0, all_on v.0 (q ∷ w.0) v.1 (i, w.1), path_on a w.0 q v.0 b w.2 v.2)

  before_way : (a q b : ℕ) → In_loop q → Maybe a q → Walks q b → Walks a b
  before_way a q b i (inl t) v = subst (λ (x : ℕ). Walks x b) (sym t) v
  before_way a q b i (inr w) v = way_on a q b i w v

  after_way : (a q b : ℕ) → In_loop q → Walks a q → Maybe q b → Walks a b
  after_way a q b i w (inl t) = subst (Walks a) t w
  after_way a q b i w (inr v) = way_on a q b i w v

  step : (a q : ℕ) → Leads m a q → Walks a q
  step a q e = ([], tt, e)

  -- from a row's first point to each, and from each to its last
  from_first : (p : ℕ) (qs : List ℕ) (y : ℕ) → Leading (Leads m) p qs → AllByRecursion In_loop (p ∷ qs) → holds nat_eq y (p ∷ qs) ≡ true
      → Maybe p y
  from_first p [] y lead all h =
      elim (or_cases (nat_eq y p) false h) as (λ _. Maybe p y) [
        | inl t ↦ inl (sym (eqb-true y p t))
        | inr t ↦ absurd (false≢true t)
      ]
  from_first p (q ∷ qs) y lead all h =
      elim (or_cases (nat_eq y p) (holds nat_eq y (q ∷ qs)) h) as (λ _. Maybe p y) [
        | inl t ↦ inl (sym (eqb-true y p t))
        | inr t ↦ inr (after_way p q y all.1.0 (step p q lead.0) (from_first q qs y lead.1 all.1 t))
      ]

  to_last : (p : ℕ) (qs : List ℕ) (x : ℕ) → Leading (Leads m) p qs → AllByRecursion In_loop (p ∷ qs) → holds nat_eq x (p ∷ qs) ≡ true
      → Maybe x (last_or p qs)
  to_last p [] x lead all h =
      elim (or_cases (nat_eq x p) false h) as (λ _. Maybe x p) [
        | inl t ↦ inl (eqb-true x p t)
        | inr t ↦ absurd (false≢true t)
      ]
  to_last p (q ∷ qs) x lead all h =
      let rest = to_last q qs in
      elim (or_cases (nat_eq x p) (holds nat_eq x (q ∷ qs)) h) as (λ _. Maybe x (last_or q qs)) [
        | inl t ↦
            inr (subst (λ (z : ℕ). Walks z (last_or q qs)) (sym (eqb-true x p t))
            (after_way p q (last_or q qs) all.1.0 (step p q lead.0) (rest q lead.1 all.1
            (or_left (nat_eq q q) (holds nat_eq q qs) (eq-eqb q q refl)))))
        | inr t ↦ rest x lead.1 all.1 t
      ]

  all_held : (xs : List ℕ) → ((q : ℕ) → holds nat_eq q xs ≡ true → In_loop q) → AllByRecursion In_loop xs
  all_held [] f = tt
  all_held (x ∷ xs) f = (
    f x (or_left (nat_eq x x) (holds nat_eq x xs) (eq-eqb x x refl)),
    all_held xs
        (λ q h. f q (or_right (nat_eq q x) (holds nat_eq q xs) h)),
  )

  row_first : (row : List ℕ) (y : ℕ) → IsSequence (Leads m) row → ((q : ℕ) → holds nat_eq q row ≡ true → In_loop q)
      → holds nat_eq y row ≡ true → Maybe (first_or 0 row) y
  row_first [] y s all h = absurd s
  row_first (p ∷ qs) y s all h = from_first p qs y s (all_held (p ∷ qs) all) h

  row_last : (row : List ℕ) (x : ℕ) → IsSequence (Leads m) row → ((q : ℕ) → holds nat_eq q row ≡ true → In_loop q)
      → holds nat_eq x row ≡ true → Maybe x (last_or 0 row)
  row_last [] x s all h = absurd s
  row_last (p ∷ qs) x s all h = to_last p qs x s (all_held (p ∷ qs) all) h

  first_held : (row : List ℕ) → IsSequence (Leads m) row → holds nat_eq (first_or 0 row) row ≡ true
  first_held [] s = absurd s
  first_held (p ∷ qs) s = or_left (nat_eq p p) (holds nat_eq p qs) (eq-eqb p p refl)

  last_in : (p : ℕ) (qs : List ℕ) → holds nat_eq (last_or p qs) (p ∷ qs) ≡ true
  last_in p [] = or_left (nat_eq p p) false (eq-eqb p p refl)
  last_in p (q ∷ qs) = or_right (nat_eq (last_or q qs) p) (holds nat_eq (last_or q qs) (q ∷ qs)) (last_in q qs)

  last_held : (row : List ℕ) → IsSequence (Leads m) row → holds nat_eq (last_or 0 row) row ≡ true
  last_held [] s = absurd s
  last_held (p ∷ qs) s = last_in p qs

-- ---- the loops

module _ (flow : Flow) (n : LoopNest) (rows : List (List ℕ)) (m : PointMaps) (are : AreBlockRows flow n rows m) (bounded : IsBounded flow)
    (reach : (b : ℕ) → b < flow.count → Reached (leads (edge flow)) flow.entry b) (nest : IsNestOf flow n) where
  abbrev k : IsNestIn flow nest.0 nest.1 n
  k = nest.2

  around_is : (b : ℕ) → row_in m.around b ≡ around_of n b
  around_is b = ap (λ (rs : List (List ℕ)). row_in rs b) are.around

  size_is : length m.around ≡ flow.count
  size_is = ap length are.around ∙ k.sizes.1

  -- the points of a loop are those of its blocks
  inside_is : (d q : ℕ) → inside m d q ≡ within_by flow (around_of n) d (block_of m q)
  inside_is d q =
      ap (λ (c : ℕ). if nat_eq d 0 then nat_lt (block_of m q) c else holds nat_eq d (row_in m.around (block_of m q))) size_is
      ∙ ap (λ (r : List ℕ). if nat_eq d 0 then nat_lt (block_of m q) flow.count else holds nat_eq d r) (around_is (block_of m q))

  in_block : (d q : ℕ) → d ≢ 0 → inside m d q ≡ true → holds nat_eq d (around_of n (block_of m q)) ≡ true
  in_block d q ne i = ap (holds nat_eq d) (sym (around_is (block_of m q))) ∙ sym (inside_loop m d q ne) ∙ i

  is_in : (d q : ℕ) → d ≢ 0 → holds nat_eq d (around_of n (block_of m q)) ≡ true → inside m d q ≡ true
  is_in d q ne h = inside_loop m d q ne ∙ ap (holds nat_eq d) (around_is (block_of m q)) ∙ h

  laws : AreLoops (loops_of flow n) (edge flow) (within_by flow (around_of n)) flow.entry (depth_of n) (λ d. 16 - depth_of n d)
      × IsRound (flow_with (loops_of flow n) (edge flow) (within_by flow (around_of n)) (λ b. false) flow.entry) (depth_of n)
      (round_by (around_of n))
  laws =
      let c = closes flow nest.0 nest.1 k.reduced k.rises in (
        are_loops flow nest.0.closed nest.1 c reach k.rises (header_of flow n) (parent_of n) (inner_of n) (depth_of n) (around_of n) 16
            k.round,
        is_round flow nest.0.closed nest.1 c reach k.rises (header_of flow n) (parent_of n) (inner_of n) (depth_of n) (around_of n) 16
            k.round (λ b. false),
      )

  module _ (d : ℕ) (some : d ≢ 0) where
    abbrev Inside : ℕ → Type 0
    Inside b = holds nat_eq d (around_of n b) ≡ true

    row_inside : (b : ℕ) → Inside b → (q : ℕ) → holds nat_eq q (row_in rows b) ≡ true → inside m d q ≡ true
    row_inside b i q h = is_in d q some (subst Inside (sym (are.own b q (k.round.blocks d b i) h)) i)

    sequence : (b : ℕ) → Inside b → IsSequence (Leads m) (row_in rows b)
    sequence b i = are.along b (k.round.blocks d b i)

    abbrev first_of : ℕ → ℕ
    first_of b = first_or 0 (row_in rows b)

    abbrev end_of : ℕ → ℕ
    end_of b = last_or 0 (row_in rows b)

    first_inside : (b : ℕ) → Inside b → inside m d (first_of b) ≡ true
    first_inside b i = row_inside b i (first_of b) (first_held m d (row_in rows b) (sequence b i))

    end_inside : (b : ℕ) → Inside b → inside m d (end_of b) ≡ true
    end_inside b i = row_inside b i (end_of b) (last_held m d (row_in rows b) (sequence b i))

    through : (b : ℕ) → Inside b → Maybe m d (first_of b) (end_of b)
    through b i = row_last m d (row_in rows b) (first_of b) (sequence b i) (row_inside b i) (first_held m d (row_in rows b) (sequence b i))

    cross : (b c : ℕ) → edge flow b c ≡ true → Walks m d (end_of b) (first_of c)
    cross b c e = step m d (end_of b) (first_of c) (are.across b c e)

    along : (b : ℕ) (us : List ℕ) (c : ℕ) → AllByRecursion Inside us → Path (edge flow) b us c → Walks m d (end_of b) (first_of c)
    along b [] c all p = cross b c p
    along b (u ∷ us) c all p =
        let rest = along b us u all.1 p.1 in
        way_on m d (end_of b) (end_of u) (first_of c) (end_inside u all.0)
        (after_way m d (end_of b) (first_of u) (end_of u) (first_inside u all.0) rest (through u all.0)) (cross u c p.0)

    strong : IsStrong (code_of m) (inside m d)
    strong x y i j =
        let b = block_of m x in
        let c = block_of m y in
        let ib = in_block d x some i in
        let ic = in_block d y some j in
        let tour = round_trip flow n nest.0 nest.1 k bounded reach (depth_of n) (λ e. 16 - depth_of n e) laws.0 d some b c ib ic in
        let here = row_last m d (row_in rows b) x (sequence b ib) (row_inside b ib) (are.there x (inside_below m d x i)) in
        let there = row_first m d (row_in rows c) y (sequence c ic) (row_inside c ic) (are.there y (inside_below m d y j)) in
        after_way m d x (first_of c) y (first_inside c ic)
        (before_way m d x (end_of b) (first_of c) (end_inside b ib) here (along b tour.0 c tour.1 tour.2)) there

  -- ---- loops round a block

  rising_places : (f : ℕ → ℕ) (xs : List ℕ) (i j : ℕ) → Rising f xs → i < j → j < length xs
      → f (slice_index_or xs i 0) < f (slice_index_or xs j 0)
  rising_places f [] i j r lt l = absurd (omega (arith, l))
  rising_places f (x ∷ xs) i zero r lt l = absurd (omega (arith, lt))
  rising_places f (x ∷ xs) zero (suc j) r lt l = r.0 (slice_index_or xs j 0) (at_place xs j 0 (omega (arith, l)))
  rising_places f (x ∷ xs) (suc i) (suc j) r lt l = rising_places f xs i j r.1 (omega (arith, lt)) (omega (arith, l))

  one_place : (f : ℕ → ℕ) (xs : List ℕ) (i j : ℕ) → Rising f xs → i < length xs → j < length xs
      → slice_index_or xs i 0 ≡ slice_index_or xs j 0 → i ≡ j
  one_place f xs i j r li lj e = by_order i j (λ lt. (let a = rising_places f xs i j r lt lj in let s = ap f e in omega (arith, a, s)))
      (λ lt. (let a = rising_places f xs j i r lt li in let s = ap f e in omega (arith, a, s)))

  -- the loop of a depth has that depth
  depth_is : (b d : ℕ) → suc d ≤ length (around_of n b) → depth_of n (round_by (around_of n) b (suc d)) ≡ suc d
  depth_is b d le = by_depth (depth_of n c) refl
    where
      c : ℕ
      c = slice_index_or (around_of n b) d 0

      there : holds nat_eq c (around_of n b) ≡ true
      there = at_place (around_of n b) d 0 (omega (arith, le))

      ne : c ≢ 0
      ne = (k.round.inside c b there).0

      in_c : within_by flow (around_of n) c b ≡ true
      in_c = elim (eqb_tells c 0) as (λ _. within_by flow (around_of n) c b ≡ true) [
        | inl t ↦ absurd (ne t.1)
        | inr t ↦ cond-false (nat_eq c 0) (nat_lt b flow.count) (holds nat_eq c (around_of n b)) t.0 ∙ there
      ]

      by_depth : (e : ℕ) → depth_of n c ≡ e → depth_of n c ≡ suc d
      by_depth zero is = absurd (ne (sym (laws.1.own c b in_c) ∙ ap (round_by (around_of n) b) is))
      by_depth (suc e) is =
          let same : slice_index_or (around_of n b) e 0 ≡ c = sym (ap (round_by (around_of n) b) is) ∙ laws.1.own c b in_c in
          elim (small_or e (length (around_of n b))) as (λ _. depth_of n c ≡ suc d) [
            | inl lt ↦ is ∙ ap suc (one_place (λ x. nest.1 (header_of flow n x)) (around_of n b) e d (k.round.rising b) lt
                (omega (arith, le)) same)
            | inr far ↦ absurd (ne (sym same ∙ beyond (around_of n b) e 0 far))
          ]

  nested : (b x d e : ℕ) → e ≤ d → d ≤ length (row_in m.around b) → inside m (loop_at m b d) x ≡ true → inside m (loop_at m b e) x ≡ true
  nested b x zero zero le most i = i
  nested b x zero (suc e) le most i = absurd (omega (arith, le))
  nested b x (suc d) e le most i =
      let c = round_by (around_of n) b (suc d) in
      let size : suc d ≤ length (around_of n b) = subst (λ (r : List ℕ). suc d ≤ length r) (around_is b) most in
      let same : (a : ℕ) → loop_at m b a ≡ round_by (around_of n) b a = λ a. ap (λ (r : List ℕ). slice_index_or (0 ∷ r) a 0) (around_is b)
      in
      let deep = depth_is b d size in
      let there : holds nat_eq c (around_of n b) ≡ true = at_place (around_of n b) d 0 (omega (arith, size)) in
      let ne = (k.round.inside c b there).0 in
      let in_b : within_by flow (around_of n) c b ≡ true = within_here c b ne there in
      let in_x : within_by flow (around_of n) c (block_of m x) ≡ true = sym (inside_is c x)
      ∙ subst (λ (z : ℕ). inside m z x ≡ true) (same (suc d)) i in
      subst (λ (z : ℕ). inside m z x ≡ true) (sym (same e)) (inside_is (round_by (around_of n) b e) x
      ∙ laws.1.outer c (block_of m x) b e in_x in_b (omega (arith, le, deep)))
    where
      within_here : (c b : ℕ) → c ≢ 0 → holds nat_eq c (around_of n b) ≡ true → within_by flow (around_of n) c b ≡ true
      within_here c b ne h = elim (eqb_tells c 0) as (λ _. within_by flow (around_of n) c b ≡ true) [
        | inl t ↦ absurd (ne t.1)
        | inr t ↦ cond-false (nat_eq c 0) (nat_lt b flow.count) (holds nat_eq c (around_of n b)) t.0 ∙ h
      ]

  shallow : (b : ℕ) → length (row_in m.around b) ≤ 16
  shallow b = subst (λ (r : List ℕ). length r ≤ 16) (sym (around_is b)) (by_size (length (around_of n b)) refl)
    where
      by_size : (l : ℕ) → length (around_of n b) ≡ l → length (around_of n b) ≤ 16
      by_size zero e = omega (arith, e)
      by_size (suc l) e = let a = depth_is b l (omega (arith, e)) in let low = k.round.low (round_by (around_of n) b (suc l)) in omega
          (arith, a, low, e)

  pub are_maps : ArePointMaps m
  are_maps =
      record {
        forth = are.forth;
        below = are.below;
        homes = are.homes;
        count = are.count;
        blocks = λ q lt. subst (λ (c : ℕ). block_of m q < c) (sym size_is) (are.blocks q lt);
        others = λ b d h. (k.round.inside d b (ap (holds nat_eq d) (sym (around_is b)) ∙ h)).0;
        shallow = shallow;
        strong = λ d some. strong d some;
        nested = nested;
      }
