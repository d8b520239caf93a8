-- What a nest of loops says of headers and their numbers.
use Rattle.std.proofs.Common.{◌≡◌, ◌≢◌, ℕ, zero, suc, ◌+◌, ◌-◌, ◌<◌, ◌⊎◌, inl, inr, Bool, true, false, List, [], ◌∷◌, map, nat_eq, refl, sym, ap, subst}
use Rattle.std.proofs.Common.{◌∙◌, arith}
use Rattle.std.specs.Prelude.{if◌then◌else◌, nat_lt, Option, Some, None, option_map, slice_get}
use Rattle.std.proofs.lemmas.Bool.{false≢true, ltb-true, ne_eqb, or_left, or_right, eq-eqb}
use Rattle.std.proofs.lemmas.Option.{slice_get-map}
use Rattle.graph_search.specs.Flows.{Flow, IsBounded, edge, leads}
use Rattle.graph_search.specs.NodeLists.{holds}
use Rattle.graph_search.specs.Orders.{Rising}
use Rattle.graph_search.specs.Walks.{Reached}
use Rattle.interval_loops.specs.declared.nest.LoopInfo.{LoopInfo}
use Rattle.interval_loops.specs.declared.nest.LoopNest.{LoopNest}
use Rattle.interval_loops.specs.Loops.{AreEnds, AreLoops, IsOrder, node_in}
use Rattle.interval_loops.specs.Nests.{IsNestOf, around_of, depth_of, header_of, header_or, inner_of, loops_of, parent_of}
use Rattle.interval_loops.specs.Rounds.{within_by}
use Rattle.interval_loops.proofs.ClosingLemmas.{closes}
use Rattle.interval_loops.proofs.RoundLemmas.{are_ends, are_loops, is_order}

held_place : (xs : List ℕ) (i h : ℕ) → slice_get xs i ≡ Some h → holds nat_eq h xs ≡ true
held_place [] i h e = absurd (cc)
held_place (x ∷ xs) zero h e = or_left (nat_eq h x) (holds nat_eq h xs) (eq-eqb h x (sym (some_same x h e)))
  where
    some_same : (a b : ℕ) → Some a ≡ Some b → a ≡ b
    some_same a b e = cc
held_place (x ∷ xs) (suc i) h e = or_right (nat_eq h x) (holds nat_eq h xs) (held_place xs i h e)

-- a rising list has a number at one place
one_place : (xs : List ℕ) → Rising (λ h. h) xs → (i j h : ℕ) → slice_get xs i ≡ Some h → slice_get xs j ≡ Some h → i ≡ j
one_place [] r i j h e f = absurd (cc)
one_place (x ∷ xs) r zero zero h e f = refl
one_place (x ∷ xs) r zero (suc j) h e f = absurd (late (some_same x h e) (r.0 h (held_place xs j h f)))
  where
    some_same : (a b : ℕ) → Some a ≡ Some b → a ≡ b
    some_same a b e = cc

    late : x ≡ h → x < h → ⊥
    late p q = omega (arith, p, q)
one_place (x ∷ xs) r (suc i) zero h e f = absurd (late (some_same x h f) (r.0 h (held_place xs i h e)))
  where
    some_same : (a b : ℕ) → Some a ≡ Some b → a ≡ b
    some_same a b e = cc

    late : x ≡ h → x < h → ⊥
    late p q = omega (arith, p, q)
one_place (x ∷ xs) r (suc i) (suc j) h e f = ap suc (one_place xs r.1 i j h e f)

head_at : (ls : List LoopInfo) (e : ℕ) (i : LoopInfo) → slice_get ls e ≡ Some i → slice_get (map (λ (i : LoopInfo). i.header) ls) e
    ≡ Some i.header
head_at ls e i g = slice_get-map (λ (i : LoopInfo). i.header) ls e ∙ ap (option_map (λ (i : LoopInfo). i.header)) g

module _ (flow : Flow) (bounded : IsBounded flow) (reach : (b : ℕ) → b < flow.count → Reached (leads (edge flow)) flow.entry b)
    (n : LoopNest) (is : IsNestOf flow n) where
  pub nest_loops : AreLoops (loops_of flow n) (edge flow) (within_by flow (around_of n)) flow.entry (depth_of n) (λ d. 16 - depth_of n d)
  nest_loops = are_loops flow is.0.closed is.1 (closes flow is.0 is.1 is.2.reduced is.2.rises) reach is.2.rises (header_of flow n)
      (parent_of n) (inner_of n) (depth_of n) (around_of n) 16 is.2.round

  pub nest_order : IsOrder (loops_of flow n) (edge flow) (within_by flow (around_of n)) flow.entry is.1
  nest_order = is_order flow is.0.closed is.1 (closes flow is.0 is.1 is.2.reduced is.2.rises) reach is.2.rises (header_of flow n)
      (parent_of n) (inner_of n) (depth_of n) (around_of n) 16 is.2.round

  pub nest_ends : AreEnds (loops_of flow n) (within_by flow (around_of n)) is.1 (flow.count + 1) (flow.count + 2) (flow.count + 1)
  nest_ends = are_ends flow is.0.closed is.1 (closes flow is.0 is.1 is.2.reduced is.2.rises) reach is.2.rises (header_of flow n)
      (parent_of n) (inner_of n) (depth_of n) (around_of n) 16 is.2.round refl is.2.ranks

  -- the header of a number is that of no loop, or a block whose innermost loop has the number
  pub header_cases : (c : ℕ) → (header_of flow n c ≡ flow.count) ⊎ ((header_of flow n c < flow.count) × (inner_of n (header_of flow n c) ≡ c))
  header_cases zero = inl refl
  header_cases (suc e) = by_place (slice_get n.loops e) refl
    where
      by_place : (p : Option LoopInfo) → slice_get n.loops e ≡ p → (header_of flow n (suc e) ≡ flow.count)
          ⊎ ((header_of flow n (suc e) < flow.count) × (inner_of n (header_of flow n (suc e)) ≡ suc e))
      by_place None g = inl (ap (header_or flow.count) g)
      by_place (Some i) g =
          let name : header_of flow n (suc e) ≡ i.header = ap (header_or flow.count) g in
          let ends = closes flow is.0 is.1 is.2.reduced is.2.rises in
          let closed = (is.2.loops.headers i.header).0 (held_place (map (λ (j : LoopInfo). j.header) n.loops) e i.header
          (head_at n.loops e i g)) in
          let block : i.header < flow.count = bounded.below closed.0 i.header (ends.edges closed.0 i.header closed.1) in
          let r = is.2.round.numbered closed.0 i.header closed.1 in
          let same : r.0 ≡ suc e = number_is r.0 (is.2.round.inside r.0 i.header r.1).0 (r.2) block in
          let here : holds nat_eq (suc e) (around_of n i.header) ≡ true = subst (λ x. holds nat_eq x (around_of n i.header) ≡ true) same
          r.1 in
          let own = nest_loops.own (suc e) i.header (λ z. omega (arith, z)) (in_loop here) in
          inr (subst (λ x. x < flow.count) (sym name) block, own)
        where
          in_loop : holds nat_eq (suc e) (around_of n i.header) ≡ true → within_by flow (around_of n) (suc e) i.header ≡ true
          in_loop h = ap (λ t. if t then nat_lt i.header flow.count else holds nat_eq (suc e) (around_of n i.header))
              (ne_eqb (suc e) 0 (λ z. omega (arith, z))) ∙ h

          number_is : (d : ℕ) → d ≢ 0 → header_of flow n d ≡ i.header → i.header < flow.count → d ≡ suc e
          number_is zero z h b = absurd (z refl)
          number_is (suc d) z h b = by_info (slice_get n.loops d) refl
            where
              by_info : (q : Option LoopInfo) → slice_get n.loops d ≡ q → suc d ≡ suc e
              by_info None k = (let far : flow.count ≡ i.header = sym (ap (header_or flow.count) k) ∙ h in absurd (omega (arith, far, b)))
              by_info (Some j) k =
                  let head : j.header ≡ i.header = sym (ap (header_or flow.count) k) ∙ h in
                  ap suc (one_place (map (λ (x : LoopInfo). x.header) n.loops) is.2.loops.ascending d e i.header
                  (head_at n.loops d j k ∙ ap Some head) (head_at n.loops e i g))

  -- a node of a level is a block
  pub node_low : (c b : ℕ) → within_by flow (around_of n) c b ≡ true
      → node_in (loops_of flow n) c b < flow.count
  node_low c b i = by_test (nat_eq (inner_of n b) c) refl
    where
      low : (x : ℕ) → within_by flow (around_of n) 0 x ≡ true → x < flow.count
      low x h = ltb-true x flow.count h

      by_test : (t : Bool) → nat_eq (inner_of n b) c ≡ t
          → node_in (loops_of flow n) c b < flow.count
      by_test true e =
          subst (λ x. x < flow.count) (sym (ap (λ t. if t then b else (loops_of flow n).header ((loops_of flow n).hold c b)) e)) (low b (nest_order.whole c b i))
      by_test false e =
          let h = nest_loops.holds c b i (λ z. false≢true (sym e ∙ eq-eqb (inner_of n b) c z)) in
          let d = (loops_of flow n).hold c b in
          subst (λ x. x < flow.count) (sym (ap (λ t. if t then b else (loops_of flow n).header ((loops_of flow n).hold c b)) e))
          (low ((loops_of flow n).header d) (nest_order.whole d ((loops_of flow n).header d) (nest_ends.has_header d b h.2 h.1)))
