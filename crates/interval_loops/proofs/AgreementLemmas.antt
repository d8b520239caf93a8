-- A graph whose blocks are reached has one nest.
use Rattle.std.proofs.Common.{◌≡◌, refl, sym, ap, ◌∙◌, subst, ℕ, zero, suc, ◌<◌, inl, inr, true, List, [], ◌∷◌, ◌++◌, length, map, drop}
use Rattle.std.proofs.Common.{arith, ◌≤◌}
use Rattle.std.specs.Prelude.{◌≢◌, nat_eq, Option, Some, None, option_map, slice_get, slice_index_or}
use Rattle.std.proofs.lemmas.Bool.{or_right}
use Rattle.std.proofs.lemmas.Option.{slice_get-map}
use Rattle.graph_search.specs.NodeLists.{holds}
use Rattle.graph_search.specs.Walks.{Walk, Reached, aside}
use Rattle.graph_search.proofs.ListLemmas.{nat_equality, holds_first, holds_right, no_more}
use Rattle.graph_search.proofs.WalkLemmas.{weaker, after_point}
use Rattle.graph_search.proofs.SearchLemmas.{holds_at}
use Rattle.graph_search.specs.Flows.{Flow, edge, leads, IsBounded}
use Rattle.graph_reduction.specs.Loops.{stays, ClosesLoops, InLoop, IsIrreducible}
use Rattle.graph_reduction.specs.Reduction.{State, IsReduced}
use Rattle.graph_reduction.proofs.EndLemmas.{reduced_agree}
use Rattle.graph_reduction.proofs.NestingLemmas.{without_closing, are_nested}
use Rattle.graph_reduction.proofs.RankLemmas.{walk_rises, ranked_ends}
use Rattle.interval_loops.specs.declared.nest.LoopInfo.{LoopInfo}
use Rattle.interval_loops.specs.declared.nest.LoopNest.{LoopNest}
use Rattle.interval_loops.specs.Rounds.{last_or}
use Rattle.graph_search.specs.Orders.{Rising}
use Rattle.interval_loops.specs.Nests.{header_or, parent_or, depth_or, header_of, parent_of, depth_of, inner_of, around_of, IsNestIn}
use Rattle.interval_loops.specs.Nests.{IsNestOf}
use Rattle.graph_search.specs.Rows.{row_in}
use Rattle.interval_loops.specs.Tables.{IsDeeper}
use Rattle.interval_loops.proofs.ClosingLemmas.{closes}
use Rattle.interval_loops.proofs.LastLemmas.{split, ended}
use Rattle.graph_search.proofs.OrderLemmas.{rising_distinct, rising_same}
use Rattle.interval_loops.proofs.LoopRowLemmas.{place_of, images, images_length, is_image}
use Rattle.interval_loops.proofs.RoundLemmas.{header_low, fronts}

index_same : (xs : List ℕ) → Rising (λ h. h) xs → (i j h : ℕ) → slice_get xs i ≡ Some h → slice_get xs j ≡ Some h → i ≡ j
index_same xs r i j h g k = let d = rising_distinct (λ h. h) xs r in sym (place_of xs i h g d) ∙ place_of xs j h k d

abbrev heads : List LoopInfo → List ℕ
heads ls = map (λ (i : LoopInfo). i.header) ls

head_at : (ls : List LoopInfo) (e : ℕ) (i : LoopInfo) → slice_get ls e ≡ Some i → slice_get (heads ls) e ≡ Some i.header
head_at ls e i g = slice_get-map (λ (i : LoopInfo). i.header) ls e ∙ ap (option_map (λ (i : LoopInfo). i.header)) g

head_from : (ls : List LoopInfo) (e h : ℕ) → slice_get (heads ls) e ≡ Some h → (j : LoopInfo) × (slice_get ls e ≡ Some j) × (j.header ≡ h)
head_from [] e h g = absurd (cc)
head_from (l ∷ ls) zero h g = (l, refl, same_some g)
  where
    same_some : {x y : ℕ} → Some x ≡ Some y → x ≡ y
    same_some e = cc
head_from (l ∷ ls) (suc e) h g = head_from ls e h g

head_or : (start : ℕ) (ls : List LoopInfo) (e : ℕ) → header_or start (slice_get ls e) ≡ slice_index_or (heads ls) e start
head_or start [] zero = refl
head_or start [] (suc e) = refl
head_or start (l ∷ ls) zero = refl
head_or start (l ∷ ls) (suc e) = head_or start ls e

no_length : (n : ℕ) → 0 ≡ suc n → ⊥
no_length n e = omega (arith, e)

-- lists with the same headers that agree at each place
infos_same : (ls ms : List LoopInfo) → heads ls ≡ heads ms → ((e : ℕ) (i j : LoopInfo) → slice_get ls e ≡ Some i → slice_get ms e ≡ Some j
    → i ≡ j) → ls ≡ ms
infos_same [] [] h same = refl
infos_same [] (m ∷ ms) h same = absurd (no_length (length (heads ms)) (ap length h))
infos_same (l ∷ ls) [] h same = absurd (no_length (length (heads ls)) (sym (ap length h)))
infos_same (l ∷ ls) (m ∷ ms) h same = ap (λ x. x ∷ ls) (same 0 l m refl refl) ∙ ap (λ xs. m ∷ xs)
    (infos_same ls ms (ap (drop 1) h) (λ e i j. same (suc e) i j))

rows_same : (xs ys : List (List ℕ)) → length xs ≡ length ys → ((b : ℕ) → row_in xs b ≡ row_in ys b) → xs ≡ ys
rows_same [] [] l h = refl
rows_same [] (y ∷ ys) l h = absurd (no_length (length ys) l)
rows_same (x ∷ xs) [] l h = absurd (no_length (length xs) (sym l))
rows_same (x ∷ xs) (y ∷ ys) l h = ap (λ z. z ∷ xs) (h 0) ∙ ap (λ zs. y ∷ zs)
    (rows_same xs ys (shorter (length xs) (length ys) l) (λ b. h (suc b)))
  where
    shorter : (n m : ℕ) → suc n ≡ suc m → n ≡ m
    shorter n m e = omega (arith, e)

numbers_same : (xs ys : List ℕ) → length xs ≡ length ys → ((b : ℕ) → slice_index_or xs b 0 ≡ slice_index_or ys b 0) → xs ≡ ys
numbers_same [] [] l h = refl
numbers_same [] (y ∷ ys) l h = absurd (no_length (length ys) l)
numbers_same (x ∷ xs) [] l h = absurd (no_length (length xs) (sym l))
numbers_same (x ∷ xs) (y ∷ ys) l h = ap (λ z. z ∷ xs) (h 0) ∙ ap (λ zs. y ∷ zs)
    (numbers_same xs ys (shorter (length xs) (length ys) l) (λ b. h (suc b)))
  where
    shorter : (n m : ℕ) → suc n ≡ suc m → n ≡ m
    shorter n m e = omega (arith, e)

module _ (flow : Flow) (bounded : IsBounded flow) (reach : (b : ℕ) → b < flow.count → Reached (leads (edge flow)) flow.entry b)
    (s : State) where
  abbrev E : ℕ → ℕ → Type 0
  E = leads (edge flow)

  -- ---- of one nest

  module _ (rank : ℕ → ℕ) (n : LoopNest) (is : IsNestIn flow s rank n) where
    ends : ClosesLoops E s.closed flow.entry
    ends = closes flow s rank is.reduced is.rises

    -- the header of a loop inside is later
    header_less : (h b : ℕ) → b < flow.count → h ≢ b → InLoop E s.closed h b → rank h < rank b
    header_less h b l ne i =
        let r = reach b l in
        let w = without_closing E s.closed flow.entry ends.passed r.0 b r.0 (omega arith) r.1 in
        elim (after_point (stays E s.closed) h flow.entry b w.0 w.1) as (λ _. rank h < rank b) [
          | inl p ↦ longer p.0 p.1
          | inr p ↦ absurd ((are_nested E s.closed flow.entry ends).passes h b i w.0
              (p.0, weaker (aside (stays E s.closed) h) (aside E h) (λ x y e. (e.0.0, e.1)) flow.entry b w.0 p.1))
        ]
      where
        longer : (k : ℕ) → Walk (stays E s.closed) h b k → rank h < rank b
        longer zero w = absurd (ne w)
        longer (suc k) w = let up = walk_rises (stays E s.closed) rank is.rises h b (suc k) w in omega (arith, up)

    -- the numbers of the rows are those of loops
    valid : (d b : ℕ) → holds nat_eq d (around_of n b) ≡ true → (e : ℕ) × (i : LoopInfo) × (d ≡ suc e) × (slice_get n.loops e ≡ Some i)
    valid zero b k = absurd ((is.round.inside 0 b k).0 refl)
    valid (suc e) b k = by_place (slice_get n.loops e) refl
      where
        by_place : (p : Option LoopInfo) → slice_get n.loops e ≡ p → (c : ℕ) × (i : LoopInfo) × (suc e ≡ suc c) ×
            (slice_get n.loops c ≡ Some i)
        by_place (Some i) g = (e, i, refl, g)
        by_place None g =
            let l = is.round.blocks (suc e) b k in
            let name : header_of flow n (suc e) ≡ flow.count = ap (header_or flow.count) g in
            elim (is.round.inside (suc e) b k).1 as (λ _. (c : ℕ) × (i : LoopInfo) × (suc e ≡ suc c) × (slice_get n.loops c ≡ Some i)) [
              | inl q ↦ let q' : b ≡ flow.count = q ∙ name in absurd (omega (arith, l, q'))
              | inr q ↦ let m = bounded.below q.0 (header_of flow n (suc e)) (ends.edges q.0 (header_of flow n (suc e)) q.2) in absurd
                  (omega (arith, m, name))
            ]

    own_row : (e : ℕ) (i : LoopInfo) → slice_get n.loops e ≡ Some i → holds nat_eq (suc e) (around_of n i.header) ≡ true
    own_row e i g =
        let u = (is.loops.headers i.header).0 (holds_at ℕ nat_equality (heads n.loops) e i.header (head_at n.loops e i g)) in
        let r = is.round.numbered u.0 i.header u.1 in
        let v = valid r.0 i.header r.1 in
        let name : v.1.header ≡ i.header = sym (ap (header_of flow n) v.2 ∙ ap (header_or flow.count) v.3) ∙ r.2 in
        let same : v.0 ≡ e = index_same (heads n.loops) is.loops.ascending v.0 e i.header (head_at n.loops v.0 v.1 v.3 ∙ ap Some name)
        (head_at n.loops e i g) in
        subst (λ x. holds nat_eq x (around_of n i.header) ≡ true) (v.2 ∙ ap suc same) r.1

    -- the row of a loop's header ends with the loop
    row_end : (e : ℕ) (i : LoopInfo) → slice_get n.loops e ≡ Some i → (xs : List ℕ) ×
        (around_of n (header_of flow n (suc e)) ≡ xs ++ suc e ∷ [])
    row_end e i g =
        let name : header_of flow n (suc e) ≡ i.header = ap (header_or flow.count) g in
        let here : holds nat_eq (suc e) (around_of n (header_of flow n (suc e))) ≡ true = subst
        (λ x. holds nat_eq (suc e) (around_of n x) ≡ true) (sym name) (own_row e i g) in
        let p = split (suc e) (around_of n (header_of flow n (suc e))) here in (
          p.0,
          fronts flow s.closed rank ends reach is.rises (header_of flow n) (parent_of n) (inner_of n) (depth_of n)
              (around_of n) 16 is.round (header_of flow n (suc e)) (suc e) p.0 p.1 p.2,
        )

    -- as many loops are round a block as round the header of the innermost
    row_few : (b : ℕ) → length (around_of n b) ≤ 16
    row_few b =
        elim (ended 0 (around_of n b)) as (λ _. length (around_of n b) ≤ 16) [
          | inl e ↦ let z : length (around_of n b) ≡ 0 = ap length e in omega (arith, z)
          | inr t ↦
              let l = last_or 0 (around_of n b) in
              let f = fronts flow s.closed rank ends reach is.rises (header_of flow n) (parent_of n) (inner_of n) (depth_of n)
              (around_of n) 16 is.round b l t.0 [] t.1 in
              let here : holds nat_eq l (around_of n (header_of flow n l)) ≡ true = subst (λ (xs : List ℕ). holds nat_eq l xs ≡ true)
              (sym f) (holds_right ℕ nat_equality l t.0 (l ∷ []) (holds_first ℕ nat_equality l [])) in
              let level = is.round.level l here in
              let low = is.round.low l in
              let one : length (around_of n b) ≡ length (t.0 ++ l ∷ []) = ap length t.1 in
              let two : length (around_of n (header_of flow n l)) ≡ length (t.0 ++ l ∷ []) = ap length f in
              omega (arith, level, low, one, two)
        ]

    pub never_deeper : IsDeeper flow s.closed 16 → ⊥
    never_deeper deep =
        let b = deep.0 in
        let m = deep.1 in
        let le = no_more ℕ nat_equality m.0 (images (header_of flow n) (around_of n b)) m.1 (λ p k.
        let r = m.2 p k in
        let d = is.round.numbered r.0.0 p r.0.1 in
        let there = is.round.all d.0 p b d.1 (subst (λ x. InLoop E s.closed x b) (sym d.2) r.1) in
        subst (λ x. holds nat_eq x (images (header_of flow n) (around_of n b)) ≡ true) d.2
        (is_image (header_of flow n) d.0 (around_of n b) there)) in
        let size = images_length (header_of flow n) (around_of n b) in
        let few = row_few b in
        let many = m.3 in
        omega (arith, le, size, few, many)

    pub never_open : IsIrreducible flow s.closed → ⊥
    never_open x = ranked_ends (stays E s.closed) rank is.rises x.0 x.1 x.2

  -- ---- of two nests

  module _ (rank rank' : ℕ → ℕ) (n m : LoopNest) (is : IsNestIn flow s rank n) (are : IsNestIn flow s rank' m) where
    heads_same : heads n.loops ≡ heads m.loops
    heads_same =
        rising_same (λ h. h) (heads n.loops) (heads m.loops) is.loops.ascending are.loops.ascending
        (λ z k. (are.loops.headers z).1 ((is.loops.headers z).0 k)) (λ z k. (is.loops.headers z).1 ((are.loops.headers z).0 k))

    header_same : (d : ℕ) → header_of flow n d ≡ header_of flow m d
    header_same zero = refl
    header_same (suc e) = head_or flow.count n.loops e ∙ (ap (λ (xs : List ℕ). slice_index_or xs e flow.count) heads_same ∙ sym
        (head_or flow.count m.loops e))

    member : (d b : ℕ) → holds nat_eq d (around_of n b) ≡ true → holds nat_eq d (around_of m b) ≡ true
    member d b k =
        let v = valid rank n is d b k in
        let j = head_from m.loops v.0 v.1.header (subst (λ (xs : List ℕ). slice_get xs v.0 ≡ Some v.1.header) heads_same
        (head_at n.loops v.0 v.1 v.3)) in
        let own = own_row rank' m are v.0 j.0 j.1 in
        let i = subst (λ x. InLoop E s.closed x b) (ap (header_of flow n) v.2 ∙ header_same (suc v.0)) (is.round.inside d b k).1 in
        subst (λ x. holds nat_eq x (around_of m b) ≡ true) (sym v.2) (are.round.all (suc v.0) j.0.header b own i)

    -- the other nest's rows rise in this one's rank
    reorder : (b : ℕ) (xs : List ℕ) → ((x : ℕ) → holds nat_eq x xs ≡ true → holds nat_eq x (around_of m b) ≡ true) → Rising
        (λ d. rank' (header_of flow m d)) xs → Rising (λ d. rank (header_of flow n d)) xs
    reorder b [] all r = tt
    reorder b (x ∷ xs) all r = (
      (λ y k.
          let hx = header_of flow m x in
          let hy = header_of flow m y in
          let inx = all x (holds_first ℕ nat_equality x xs) in
          let iny = all y (or_right (nat_eq y x) (holds nat_eq y xs) k) in
          let l = are.round.blocks x b inx in
          let bx = are.round.blocks x hx (are.round.all x b hx inx (inl refl)) in
          let by = are.round.blocks y hy (are.round.all y b hy iny (inl refl)) in
          let less = r.0 y k in
          let one : rank hx < rank hy =
          elim ((are_nested E s.closed flow.entry (ends rank' m are)).nested hx hy b (reach b l) (are.round.inside x b inx).1
          (are.round.inside y b iny).1) as (λ _. rank hx < rank hy) [
            | inl w ↦ let low = header_low flow s.closed rank' (ends rank' m are) reach are.rises hy hx bx (w hx (inl refl)) in absurd
                (omega (arith, low, less))
            | inr w ↦ header_less rank n is hx hy by (λ e. not_less (rank' hx) (rank' hy) (ap rank' e) less) (w hy (inl refl))
          ] in
          subst (λ z. rank z < rank (header_of flow n y)) (sym (header_same x)) (subst (λ z. rank hx < rank z) (sym (header_same y)) one)),
      reorder b xs (λ z k. all z (or_right (nat_eq z x) (holds nat_eq z xs) k)) r.1,
    )
      where
        not_less : (p q : ℕ) → p ≡ q → p < q → ⊥
        not_less p q e l = omega (arith, e, l)

  module _ (rank rank' : ℕ → ℕ) (n m : LoopNest) (is : IsNestIn flow s rank n) (are : IsNestIn flow s rank' m) where
    around_same : (b : ℕ) → around_of n b ≡ around_of m b
    around_same b =
        rising_same (λ d. rank (header_of flow n d)) (around_of n b) (around_of m b) (is.round.rising b)
        (reorder rank rank' n m is are b (around_of m b) (λ x k. k) (are.round.rising b))
        (λ d k. member rank rank' n m is are d b k) (λ d k. member rank' rank m n are is d b k)

    info_same : (e : ℕ) (i j : LoopInfo) → slice_get n.loops e ≡ Some i → slice_get m.loops e ≡ Some j → i ≡ j
    info_same e i j g k =
        let name : header_of flow n (suc e) ≡ i.header = ap (header_or flow.count) g in
        let name' : header_of flow m (suc e) ≡ j.header = ap (header_or flow.count) k in
        let one = header_same rank rank' n m is are (suc e) in
        let h : i.header ≡ j.header = sym name ∙ (one ∙ name') in
        let r = row_end rank n is e i g in
        let row : around_of m (header_of flow m (suc e)) ≡ r.0 ++ suc e ∷ [] = ap (around_of m) (sym one) ∙
        (sym (around_same (header_of flow n (suc e))) ∙ r.1) in
        let p : i.parent ≡ j.parent = sym (ap parent_or g) ∙ (is.round.up (suc e) r.0 r.1 ∙
        (sym (are.round.up (suc e) r.0 row) ∙ ap parent_or k)) in
        let own = subst (λ x. holds nat_eq (suc e) (around_of n x) ≡ true) (sym name) (own_row rank n is e i g) in
        let own' = subst (λ x. holds nat_eq (suc e) (around_of m x) ≡ true) (sym name') (own_row rank' m are e j k) in
        let d : i.depth ≡ j.depth =
        sym (ap depth_or g) ∙ (is.round.level (suc e) own ∙ (ap length (around_same (header_of flow n (suc e)) ∙ ap (around_of m) one) ∙
        (sym (are.round.level (suc e) own') ∙ ap depth_or k))) in
        let c = is.loops.closing e i g in
        let c' = are.loops.closing e j k in
        let q : i.closing ≡ j.closing =
        rising_same (λ u. u) i.closing j.closing c.1 c'.1 (λ u t. c'.0 u ∙ (ap (s.closed u) (sym h) ∙ (sym (c.0 u) ∙ t)))
        (λ u t. c.0 u ∙ (ap (s.closed u) h ∙ (sym (c'.0 u) ∙ t))) in
        (λ z. record { header = h z; parent = p z; depth = d z; closing = q z })

    pub nests_same : n ≡ m
    nests_same =
        let ls = infos_same n.loops m.loops (heads_same rank rank' n m is are) info_same in
        let rs = rows_same n.around m.around (is.sizes.1 ∙ sym are.sizes.1) around_same in
        let ns = numbers_same n.innermost m.innermost (is.sizes.0 ∙ sym are.sizes.0)
        (λ b. is.round.innermost b ∙ (ap (last_or 0) (around_same b) ∙ sym (are.round.innermost b))) in
        (λ z. record { loops = ls z; innermost = ns z; around = rs z })

pub nests_agree : (flow : Flow) → IsBounded flow → ((b : ℕ) → b < flow.count → Reached (leads (edge flow)) flow.entry b) → (n m : LoopNest)
    → IsNestOf flow n → IsNestOf flow m → n ≡ m
nests_agree flow bounded reach n m is are =
    let same = reduced_agree flow are.0 is.0 are.2.reduced is.2.reduced in
    nests_same flow bounded reach is.0 is.1 are.1 n m is.2 (subst (λ (t : State). IsNestIn flow t are.1 m) same are.2)

pub never_refused : (flow : Flow) → IsBounded flow → ((b : ℕ) → b < flow.count → Reached (leads (edge flow)) flow.entry b) → (n : LoopNest)
    → IsNestOf flow n → (s : State) → IsReduced flow s → (IsIrreducible flow s.closed → ⊥) × (IsDeeper flow s.closed 16 → ⊥)
never_refused flow bounded reach n is s red =
    let m = subst (λ (t : State). IsNestIn flow t is.1 n) (reduced_agree flow is.0 s is.2.reduced red) is.2 in
    (never_open flow bounded reach s is.1 n m, never_deeper flow bounded reach s is.1 n m)
