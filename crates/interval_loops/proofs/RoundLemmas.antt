-- The loops round a block are those round the header of each of them, and those inside.
use Rattle.std.proofs.Common.{◌≡◌, refl, sym, ap, ◌∙◌, subst, ℕ, zero, suc, ◌+◌, ◌-◌, ◌<◌, ◌≤◌, inl, inr, Bool, true, false, List, [], ◌∷◌}
use Rattle.std.proofs.Common.{◌++◌, length, arith}
use Rattle.std.specs.Prelude.{◌≢◌, nat_eq, nat_lt, slice_index_or}
use Rattle.std.proofs.lemmas.Bool.{cases_eq, cases_Bool, or_cases, or_left, or_right, and_parts, cond-true, cond-false, eqb-true, eq-eqb}
use Rattle.std.proofs.lemmas.Bool.{ne_eqb, ltb-true, lt-ltb, false≢true}
use Rattle.std.proofs.lemmas.List.{append_assoc, length-append, get_or_append_left}
use Rattle.graph_search.specs.NodeLists.{holds, Distinct}
use Rattle.graph_search.specs.Walks.{Walk, Reached, aside, Passes}
use Rattle.graph_search.proofs.ListLemmas.{nat_equality, holds_left, holds_right, holds_parts, holds_one, holds_first}
use Rattle.graph_search.proofs.WalkLemmas.{weaker, after_point, avoids_end}
use Rattle.graph_search.specs.Flows.{Flow, edge, leads}
use Rattle.graph_reduction.specs.Loops.{stays, ClosesLoops, InLoop, AreNested}
use Rattle.graph_reduction.proofs.NestingLemmas.{without_closing, header_takes, are_nested}
use Rattle.graph_reduction.proofs.RankLemmas.{walk_rises}
use Rattle.interval_loops.specs.Loops.{AreLoops, IsOrder, AreEnds, flow_with, IsRound}
use Rattle.interval_loops.specs.Rounds.{last_or, after, RisesOpen, AreRound, loops_by, within_by, round_by}
use Rattle.graph_search.specs.Orders.{Rising}
use Rattle.std.proofs.Math.Seq.{get_or-append_seam}
use Rattle.std.proofs.lemmas.Bool.Decides.{nat_tests}
use Rattle.graph_search.proofs.RowLemmas.{held_at}
use Rattle.interval_loops.proofs.LastLemmas.{split, last_over, last_in, ended, next_one, one_before}
use Rattle.graph_search.proofs.OrderLemmas.{rising_front, rising_before, rising_behind, rising_distinct, rising_same}

module _ (flow : Flow) (closed : ℕ → ℕ → Bool) (rank : ℕ → ℕ) (c : ClosesLoops (leads (edge flow)) closed flow.entry)
    (reach : (b : ℕ) → b < flow.count → Reached (leads (edge flow)) flow.entry b) (up : RisesOpen flow closed rank) where
  abbrev E : ℕ → ℕ → Type 0
  E = leads (edge flow)

  nests : AreNested E closed flow.entry
  nests = are_nested E closed flow.entry c

  -- what each walk passes is no higher
  passed_low : (h b : ℕ) → b < flow.count → Passes E flow.entry h b → rank h ≤ rank b
  passed_low h b l p =
      let r = reach b l in
      let w = without_closing E closed flow.entry c.passed r.0 b r.0 (omega arith) r.1 in
      elim (after_point (stays E closed) h flow.entry b w.0 w.1) as (λ _. rank h ≤ rank b) [
        | inl s ↦ let rise = walk_rises (stays E closed) rank up h b s.0 s.1 in omega (arith, rise)
        | inr s ↦ absurd (p w.0 (s.0, weaker (aside (stays E closed) h) (aside E h) (λ x y e. (e.0.0, e.1)) flow.entry b w.0 s.1))
      ]

  pub header_low : (h b : ℕ) → b < flow.count → InLoop E closed h b → rank h ≤ rank b
  header_low h b l i = passed_low h b l (nests.passes h b i)

  edge_block : (u v : ℕ) → E u v → u < flow.count
  edge_block u v e = ltb-true u flow.count (and_parts (nat_lt u flow.count)
      (Rattle.std.specs.List.list_any (λ x. nat_eq x v) (flow.next u)) e).0

  module _ (header parent inner at : ℕ → ℕ) (around : ℕ → List ℕ) (deepest : ℕ)
      (r : AreRound flow closed rank header parent inner at around deepest) where
    -- a loop has its header, which is a block
    own_header : (d b : ℕ) → holds nat_eq d (around b) ≡ true → holds nat_eq d (around (header d)) ≡ true
    own_header d b h = r.all d b (header d) h (inl refl)

    -- up to a loop, the loops round a block are those round the loop's header
    pub fronts : (b d : ℕ) (xs ys : List ℕ) → around b ≡ xs ++ d ∷ ys → around (header d) ≡ xs ++ d ∷ []
    fronts b d xs ys e =
        let f = λ (k : ℕ). rank (header k) in
        let rise : Rising f (xs ++ d ∷ ys) = subst (λ zs. Rising f zs) e (r.rising b) in
        let has : holds nat_eq d (around b) ≡ true = subst (λ zs. holds nat_eq d zs ≡ true) (sym e)
        (holds_right ℕ nat_equality d xs (d ∷ ys) (holds_first ℕ nat_equality d ys)) in
        let mine = own_header d b has in
        let block = r.blocks d b has in
        let top = r.blocks d (header d) mine in
        let inner_loop = (r.inside d b has).1 in
        rising_same f (around (header d)) (xs ++ d ∷ []) (r.rising (header d)) (rising_front f xs d ys rise)
        (λ k h.
        let i = (r.inside k (header d) h).1 in
        let low = header_low (header k) (header d) top i in
        let walk = reach (header d) top in
        let there = r.all k (header d) b h (header_takes E closed flow.entry c (header k) (header d) walk.0 walk.1 i b inner_loop) in
        elim (holds_parts ℕ nat_equality k xs (d ∷ ys) (subst (λ zs. holds nat_eq k zs ≡ true) e there)) as
        (λ _. holds nat_eq k (xs ++ d ∷ []) ≡ true) [
          | inl a ↦ holds_left ℕ nat_equality k xs (d ∷ []) a
          | inr o ↦
              elim (or_cases (nat_eq k d) (holds nat_eq k ys) o) as (λ _. holds nat_eq k (xs ++ d ∷ []) ≡ true) [
                | inl a ↦ holds_right ℕ nat_equality k xs (d ∷ []) (or_left (nat_eq k d) false a)
                | inr a ↦ let high = rising_behind f xs d ys rise k a in absurd (omega (arith, low, high))
              ]
        ])
        (λ k h.
        elim (holds_parts ℕ nat_equality k xs (d ∷ []) h) as (λ _. holds nat_eq k (around (header d)) ≡ true) [
          | inl a ↦
              let less = rising_before f xs d ys rise k a in
              let here = subst (λ zs. holds nat_eq k zs ≡ true) (sym e) (holds_left ℕ nat_equality k xs (d ∷ ys) a) in
              let i = (r.inside k b here).1 in
              let high = r.blocks k (header k) (own_header k b here) in
              elim (nests.nested (header k) (header d) b (reach b block) i inner_loop) as (λ _. holds nat_eq k (around (header d)) ≡ true) [
                | inl w ↦ let low = header_low (header d) (header k) high (w (header k) (inl refl)) in absurd (omega (arith, less, low))
                | inr w ↦ r.all k b (header d) here (w (header d) (inl refl))
              ]
          | inr a ↦ subst (λ z. holds nat_eq z (around (header d)) ≡ true) (sym (holds_one ℕ nat_equality k d a)) mine
        ])

    -- ---- the loops of the law on trees

    abbrev within : ℕ → ℕ → Bool
    within = within_by flow around

    whole_in : (d b : ℕ) → d ≡ 0 → within d b ≡ nat_lt b flow.count
    whole_in d b e = cond-true (nat_eq d 0) (nat_lt b flow.count) (holds nat_eq d (around b)) (eq-eqb d 0 e)

    loop_in : (d b : ℕ) → d ≢ 0 → within d b ≡ holds nat_eq d (around b)
    loop_in d b ne = cond-false (nat_eq d 0) (nat_lt b flow.count) (holds nat_eq d (around b)) (ne_eqb d 0 ne)

    held_in : (d b : ℕ) → d ≢ 0 → within d b ≡ true → holds nat_eq d (around b) ≡ true
    held_in d b ne w = sym (loop_in d b ne) ∙ w

    is_in : (d b : ℕ) → holds nat_eq d (around b) ≡ true → within d b ≡ true
    is_in d b h = loop_in d b (r.inside d b h).0 ∙ h

    block_in : (d b : ℕ) → within d b ≡ true → b < flow.count
    block_in d b w =
        elim (cases_eq d 0) as (λ _. b < flow.count) [
          | inl e ↦ ltb-true b flow.count (sym (whole_in d b e) ∙ w)
          | inr ne ↦ r.blocks d b (held_in d b ne w)
        ]

    listed : (d b : ℕ) → within d b ≡ true → holds nat_eq d (0 ∷ around b) ≡ true
    listed d b w =
        elim (cases_eq d 0) as (λ _. holds nat_eq d (0 ∷ around b) ≡ true) [
          | inl e ↦ or_left (nat_eq d 0) (holds nat_eq d (around b)) (eq-eqb d 0 e)
          | inr ne ↦ or_right (nat_eq d 0) (holds nat_eq d (around b)) (held_in d b ne w)
        ]

    no_zero : (b : ℕ) → holds nat_eq 0 (around b) ≡ false
    no_zero b =
        elim (cases_Bool (holds nat_eq 0 (around b))) as (λ _. holds nat_eq 0 (around b) ≡ false) [
          | inl t ↦ absurd ((r.inside 0 b t).0 refl)
          | inr g ↦ g
        ]

    all_distinct : (b : ℕ) → Distinct nat_eq (0 ∷ around b)
    all_distinct b = (no_zero b, rising_distinct (λ k. rank (header k)) (around b) (r.rising b))

    chain_holds : (k b : ℕ) → within k b ≡ true → inner b ≢ k → (parent (after k (0 ∷ around b)) ≡ k) ×
        (within (after k (0 ∷ around b)) b ≡ true) × (after k (0 ∷ around b) ≢ 0)
    chain_holds k b w ne =
        let n = next_one 0 (around b) k (listed k b w) (λ e. ne (r.innermost b ∙ e)) in
        let here : holds nat_eq n.1 (around b) ≡ true = subst (λ zs. holds nat_eq n.1 zs ≡ true) (sym n.3)
        (holds_right ℕ nat_equality n.1 n.0 (n.1 ∷ n.2) (holds_first ℕ nat_equality n.1 n.2)) in (
          ap parent n.5 ∙ (r.up n.1 n.0 (fronts b n.1 n.0 n.2 n.3) ∙ n.4),
          ap (λ k. within k b) n.5 ∙ is_in n.1 b here,
          (λ z. (r.inside n.1 b here).0 (sym n.5 ∙ z)),
        )

    chain_held : (d b : ℕ) → d ≢ 0 → within d b ≡ true → (within (parent d) b ≡ true) × (inner b ≢ parent d) ×
        (after (parent d) (0 ∷ around b) ≡ d)
    chain_held d b ne w =
        let h = held_in d b ne w in
        let s = split d (around b) h in
        let p = r.up d s.0 (fronts b d s.0 s.1 s.2) in
        let o = one_before 0 s.0 d s.1 (subst (λ zs. Distinct nat_eq (0 ∷ zs)) s.2 (all_distinct b)) in
        let last : inner b ≡ last_or 0 (s.0 ++ d ∷ s.1) = r.innermost b ∙ ap (last_or 0) s.2 in
        let at_p : after (last_or 0 s.0) (0 ∷ around b) ≡ d = ap (λ zs. after (last_or 0 s.0) (0 ∷ zs)) s.2 ∙ o.1 in
        let outer : within (last_or 0 s.0) b ≡ true =
        elim (or_cases (nat_eq (last_or 0 s.0) 0) (holds nat_eq (last_or 0 s.0) s.0) (last_in 0 s.0)) as
        (λ _. within (last_or 0 s.0) b ≡ true) [
          | inl z ↦ whole_in (last_or 0 s.0) b (eqb-true (last_or 0 s.0) 0 z) ∙ lt-ltb b flow.count (r.blocks d b h)
          | inr m ↦ is_in (last_or 0 s.0) b (subst (λ zs. holds nat_eq (last_or 0 s.0) zs ≡ true) (sym s.2)
              (holds_left ℕ nat_equality (last_or 0 s.0) s.0 (d ∷ s.1) m))
        ] in
        (ap (λ k. within k b) p ∙ outer, (λ e. o.0 (sym last ∙ (e ∙ p))), ap (λ k. after k (0 ∷ around b)) p ∙ at_p)

    chain_own : (d b : ℕ) → d ≢ 0 → within d b ≡ true → inner (header d) ≡ d
    chain_own d b ne w =
        let s = split d (around b) (held_in d b ne w) in
        r.innermost (header d) ∙ (ap (last_or 0) (fronts b d s.0 s.1 s.2) ∙ last_over 0 s.0 d [])

    loop_deeper : (d : ℕ) → holds nat_eq d (around (header d)) ≡ true → at d ≡ at (parent d) + 1
    loop_deeper d h =
        let s = split d (around (header d)) h in
        let f = fronts (header d) d s.0 s.1 s.2 in
        let p = r.up d s.0 f in
        let long : at d ≡ length s.0 + 1 = r.level d h ∙ (ap length f ∙ length-append s.0 (d ∷ [])) in
        let before : at (last_or 0 s.0) ≡ length s.0 =
        elim (ended 0 s.0) as (λ _. at (last_or 0 s.0) ≡ length s.0) [
          | inl e ↦ ap (λ zs. at (last_or 0 zs)) e ∙ (r.top ∙ sym (ap length e))
          | inr t ↦
              let q = last_or 0 s.0 in
              let over : around (header d) ≡ t.0 ++ q ∷ d ∷ [] = f ∙ (ap (λ zs. zs ++ d ∷ []) t.1 ∙ append_assoc t.0 (q ∷ []) (d ∷ [])) in
              let g = fronts (header d) q t.0 (d ∷ []) over in
              let mine : holds nat_eq q (around (header q)) ≡ true = subst (λ zs. holds nat_eq q zs ≡ true) (sym g)
              (holds_right ℕ nat_equality q t.0 (q ∷ []) (holds_first ℕ nat_equality q [])) in
              r.level q mine ∙ (ap length g ∙ ap length (sym t.1))
        ] in
        long ∙ ap (λ k. k + 1) (sym (ap at p ∙ before))

    chain_deeper : (d : ℕ) → d ≢ 0 → at d ≡ at (parent d) + 1
    chain_deeper d ne =
        elim (cases_Bool (holds nat_eq d (around (header d)))) as (λ _. at d ≡ at (parent d) + 1) [
          | inl t ↦ loop_deeper d t
          | inr g ↦ r.other_level d ne g ∙ sym (ap (λ k. k + 1) (ap at (r.other_up d g) ∙ r.top))
        ]

    chain_lower : (d : ℕ) → d ≢ 0 → deepest - at d < deepest - at (parent d)
    chain_lower d ne = let e = chain_deeper d ne in let l = r.low d in omega (arith, e, l)

    chain_single : (d u v : ℕ) → d ≢ 0 → edge flow u v ≡ true → within d u ≡ false → within d v ≡ true → v ≡ header d
    chain_single d u v ne e out w =
        let h = held_in d v ne w in
        elim (cases_eq v (header d)) as (λ _. v ≡ header d) [
          | inl s ↦ s
          | inr other ↦ absurd (false≢true (sym out ∙ is_in d u (r.all d v u h (nests.entered (header d) u v (r.inside d v h).1 e other))))
        ]

    chain_self : (u : ℕ) → edge flow u u ≡ true → header (inner u) ≡ u
    chain_self u e =
        let closes = nests.closing u u (reach u (edge_block u u e)) (λ n a. avoids_end E u flow.entry u n a refl) e in
        let d = r.numbered u u closes in
        let s = split d.0 (around u) d.1 in
        let f = fronts u d.0 s.0 s.1 s.2 in
        let last : inner u ≡ d.0 = r.innermost u ∙ (ap (λ k. last_or 0 (around k)) (sym d.2) ∙
        (ap (last_or 0) f ∙ last_over 0 s.0 d.0 [])) in
        ap header last ∙ d.2

    chain_entered : (d : ℕ) → d ≢ 0 → within d flow.entry ≡ true → flow.entry ≡ header d
    chain_entered d ne w =
        elim (cases_eq flow.entry (header d)) as (λ _. flow.entry ≡ header d) [
          | inl s ↦ s
          | inr other ↦ absurd (nests.passes (header d) flow.entry (r.inside d flow.entry (held_in d flow.entry ne w)).1 0 (other, refl))
        ]

    pub are_loops : AreLoops (loops_by header parent inner around) (edge flow) within flow.entry at (λ d. deepest - at d)
    are_loops =
        record {
          top = r.top;
          start = whole_in 0 (header 0) refl ∙ r.start;
          deeper = chain_deeper;
          lower = chain_lower;
          holds = chain_holds;
          held = chain_held;
          own = chain_own;
          single = chain_single;
          self = chain_self;
          entered = chain_entered;
        }

    -- ---- the order

    -- the source of a closing edge is in the loop
    source_in : (u h : ℕ) → closed u h ≡ true → InLoop E closed h u
    source_in u h k =
        elim (cases_eq u h) as (λ _. InLoop E closed h u) [
          | inl e ↦ inl e
          | inr ne ↦ inr (u, 0, k, (ne, refl))
        ]

    chain_rises : (u v : ℕ) → edge flow u v ≡ true → ((d : ℕ) → d ≢ 0 → within d u ≡ true → v ≢ header d) → rank u < rank v
    chain_rises u v e out =
        elim (cases_Bool (closed u v)) as (λ _. rank u < rank v) [
          | inl t ↦
              let d = r.numbered u v t in
              let here = r.all d.0 v u d.1 (subst (λ k. InLoop E closed k u) (sym d.2) (source_in u v t)) in
              absurd (out d.0 (r.inside d.0 u here).0 (is_in d.0 u here) (sym d.2))
          | inr f ↦ up u v (e, f)
        ]

    edge_in : (u v : ℕ) → E u v → within 0 u ≡ true
    edge_in u v e = whole_in 0 u refl ∙ lt-ltb u flow.count (edge_block u v e)

    last_edge : (b n : ℕ) → b ≢ flow.entry → Walk (stays E closed) flow.entry b n → (a : ℕ) × (within 0 a ≡ true) × (edge flow a b ≡ true) ×
        (rank a < rank b)
    last_edge b zero ne w = absurd (ne (sym w))
    last_edge b (suc n) ne w = (w.0, edge_in w.0 b w.2.0, w.2.0, up w.0 b w.2)

    chain_preceded : (b : ℕ) → within 0 b ≡ true → b ≢ flow.entry → (a : ℕ) × (within 0 a ≡ true) × (edge flow a b ≡ true) × (rank a < rank b)
    chain_preceded b w ne =
        let s = reach b (block_in 0 b w) in
        let o = without_closing E closed flow.entry c.passed s.0 b s.0 (omega arith) s.1 in
        last_edge b o.0 ne o.1

    pub is_order : IsOrder (loops_by header parent inner around) (edge flow) within flow.entry rank
    is_order =
        record {
          rises = chain_rises;
          preceded = chain_preceded;
          whole = λ d b w. whole_in 0 b refl ∙ lt-ltb b flow.count (block_in d b w);
        }

    -- ---- the loops of each depth

    depth_at : (c b : ℕ) (xs ys : List ℕ) → around b ≡ xs ++ c ∷ ys → at c ≡ suc (length xs)
    depth_at c b xs ys e =
        let h : holds nat_eq c (around b) ≡ true = subst (λ zs. holds nat_eq c zs ≡ true) (sym e)
        (holds_right ℕ nat_equality c xs (c ∷ ys) (holds_first ℕ nat_equality c ys)) in
        let long = length-append xs (c ∷ []) in
        let level = r.level c (own_header c b h) ∙ ap length (fronts b c xs ys e) in
        omega (arith, long, level)

    round_own : (c b : ℕ) → within c b ≡ true → round_by around b (at c) ≡ c
    round_own c b w =
        elim (cases_eq c 0) as (λ _. round_by around b (at c) ≡ c) [
          | inl e ↦ ap (λ k. slice_index_or (0 ∷ around b) k 0) (ap at e ∙ r.top) ∙ sym e
          | inr ne ↦
              let s = split c (around b) (held_in c b ne w) in
              ap (λ k. slice_index_or (0 ∷ around b) k 0) (depth_at c b s.0 s.1 s.2) ∙
              (ap (λ zs. slice_index_or zs (length s.0) 0) s.2 ∙ get_or-append_seam s.0 c s.1 0)
        ]

    -- the loops round a block down to one that holds another block hold that block
    round_shared : (c u v k : ℕ) (xs ys ws zs : List ℕ) → around v ≡ xs ++ c ∷ ys → around u ≡ ws ++ c ∷ zs → k ≤ length xs → within
        (slice_index_or (around v) k 0) u ≡ true
    round_shared c u v k xs ys ws zs e f l =
        let long = length-append xs (c ∷ []) in
        let same : xs ++ c ∷ [] ≡ ws ++ c ∷ [] = sym (fronts v c xs ys e) ∙ fronts u c ws zs f in
        let whole : around v ≡ (xs ++ c ∷ []) ++ ys = e ∙ sym (append_assoc xs (c ∷ []) ys) in
        let value : slice_index_or (around v) k 0 ≡ slice_index_or (xs ++ c ∷ []) k 0 = ap (λ (as1 : List ℕ). slice_index_or as1 k 0) whole
        ∙ get_or_append_left (xs ++ c ∷ []) ys 0 k (omega (arith, l, long)) in
        let there : holds nat_eq (slice_index_or (xs ++ c ∷ []) k 0) (ws ++ c ∷ []) ≡ true = subst
        (λ (as1 : List ℕ). holds nat_eq (slice_index_or (xs ++ c ∷ []) k 0) as1 ≡ true) same
        (held_at (xs ++ c ∷ []) k (omega (arith, l, long))) in
        let whole' : around u ≡ (ws ++ c ∷ []) ++ zs = f ∙ sym (append_assoc ws (c ∷ []) zs) in
        ap (λ k. within k u) value ∙ is_in (slice_index_or (xs ++ c ∷ []) k 0) u
        (subst (λ (as1 : List ℕ). holds nat_eq (slice_index_or (xs ++ c ∷ []) k 0) as1 ≡ true) (sym whole')
        (holds_left ℕ nat_equality (slice_index_or (xs ++ c ∷ []) k 0) (ws ++ c ∷ []) zs there))

    block_whole : (u : ℕ) → u < flow.count → within 0 u ≡ true
    block_whole u l = whole_in 0 u refl ∙ lt-ltb u flow.count l

    round_outer : (c u v d : ℕ) → within c u ≡ true → within c v ≡ true → d ≤ at c → within (round_by around v d) u ≡ true
    round_outer c u v zero i j l = block_whole u (block_in c u i)
    round_outer c u v (suc k) i j l =
        elim (cases_eq c 0) as (λ _. within (slice_index_or (around v) k 0) u ≡ true) [
          | inl e ↦ let z : at c ≡ 0 = ap at e ∙ r.top in absurd (omega (arith, l, z))
          | inr ne ↦
              let s = split c (around v) (held_in c v ne j) in
              let t = split c (around u) (held_in c u ne i) in
              let deep = depth_at c v s.0 s.1 s.2 in
              round_shared c u v k s.0 s.1 t.0 t.1 s.2 t.2 (omega (arith, l, deep))
        ]

    pub is_round : (ends : ℕ → Bool) → IsRound (flow_with (loops_by header parent inner around) (edge flow) within ends flow.entry) at
        (round_by around)
    is_round ends = record { own = round_own; outer = round_outer }

    -- ---- the ends

    past : (n k : ℕ) → n ≤ k → nat_lt k n ≡ false
    past n k l = grind (arith, nat_tests)

    pub are_ends : header 0 ≡ flow.count → ((b : ℕ) → b < flow.count → rank b < flow.count) → AreEnds
        (loops_by header parent inner around) within rank (flow.count + 1) (flow.count + 2) (flow.count + 1)
    are_ends start ranks =
        record {
          no_close = whole_in 0 (flow.count + 1) refl ∙ past flow.count (flow.count + 1) (omega arith);
          no_leave = whole_in 0 (flow.count + 2) refl ∙ past flow.count (flow.count + 2) (omega arith);
          start_close = λ e. omega (arith, e, start);
          start_leave = λ e. omega (arith, e, start);
          bounded = λ b w. let k = ranks b (block_in 0 b w) in omega (arith, k);
          has_header = λ d b ne w. is_in d (header d) (own_header d b (held_in d b ne w));
        }
