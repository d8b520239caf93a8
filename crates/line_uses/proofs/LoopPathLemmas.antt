-- In a loop of a nest each block leads to each inside it.
use Rattle.std.proofs.Common.{◌≡◌, ◌≢◌, ℕ, zero, suc, ◌<◌, ◌⊎◌, inl, inr, true, List, [], ◌∷◌, ◌++◌}
use Rattle.std.proofs.Common.{refl, sym, ap, ◌∙◌, subst, arith}
use Rattle.std.specs.Prelude.{nat_eq, nat_lt, map, Option, Some, None, slice_get, is_some, unwrap_or}
use Rattle.std.specs.List.{AllByRecursion}
use Rattle.std.proofs.lemmas.Bool.{cases_Bool, cond-false, or_right, false≢true}
use Rattle.std.proofs.lemmas.Bool.Decides.{eqb_tells}
use Rattle.graph_search.specs.NodeLists.{holds}
use Rattle.graph_search.specs.Flows.{Flow, IsBounded, edge, leads}
use Rattle.graph_search.specs.Walks.{Avoids, Reached, Walk}
use Rattle.graph_search.proofs.ListLemmas.{holds_first, nat_equality}
use Rattle.graph_reduction.specs.Loops.{InLoop}
use Rattle.graph_reduction.specs.Reduction.{State}
use Rattle.interval_loops.specs.declared.nest.LoopInfo.{LoopInfo}
use Rattle.interval_loops.specs.declared.nest.LoopNest.{LoopNest}
use Rattle.interval_loops.specs.Loops.{AreLoops}
use Rattle.interval_loops.specs.Nests.{IsNestIn, around_of, header_of, header_or, loops_of}
use Rattle.interval_loops.specs.Rounds.{within_by}
use Rattle.interval_loops.specs.Tables.{IsHeader}
use Rattle.interval_loops.proofs.ClosingLemmas.{closes}
use Rattle.persistence.specs.Younger.{Path}

none_some : (A : Type 0) (x : A) → (◌≡◌ {A = Option A} None (Some x)) → ⊥
none_some A x e = false≢true (ap is_some e)

some_same : (A : Type 0) (x y : A) → (◌≡◌ {A = Option A} (Some x) (Some y)) → x ≡ y
some_same A x y e = ap (λ (o : Option A). unwrap_or o x) e

holds_later : (q x : ℕ) (xs : List ℕ) → holds nat_eq q xs ≡ true → holds nat_eq q (x ∷ xs) ≡ true
holds_later q x xs h = or_right (nat_eq q x) (holds nat_eq q xs) h

module _ (flow : Flow) (n : LoopNest) (s : State) (rank : ℕ → ℕ) (is : IsNestIn flow s rank n) (bounded : IsBounded flow)
    (reach : (b : ℕ) → b < flow.count → Reached (leads (edge flow)) flow.entry b) (at height : ℕ → ℕ)
    (loops : AreLoops (loops_of flow n) (edge flow) (within_by flow (around_of n)) flow.entry at height) (d : ℕ) (some : d ≢ 0) where
  abbrev pub In : ℕ → Type 0
  In b = holds nat_eq d (around_of n b) ≡ true

  abbrev h : ℕ
  h = header_of flow n d

  abbrev pub Tour : ℕ → ℕ → Type 0
  Tour a b = (us : List ℕ) × AllByRecursion In us × Path (edge flow) a us b

  same : (b : ℕ) → within_by flow (around_of n) d b ≡ holds nat_eq d (around_of n b)
  same b =
      elim (eqb_tells d 0) as (λ _. within_by flow (around_of n) d b ≡ holds nat_eq d (around_of n b)) [
        | inl t ↦ absurd (some t.1)
        | inr t ↦ cond-false (nat_eq d 0) (nat_lt b flow.count) (holds nat_eq d (around_of n b)) t.0
      ]

  -- what leads to a block of the loop other than the header is in the loop
  into : (u v : ℕ) → edge flow u v ≡ true → In v → v ≢ h → In u
  into u v e i ne =
      elim (cases_Bool (within_by flow (around_of n) d u)) as (λ _. In u) [
        | inl t ↦ sym (same u) ∙ t
        | inr t ↦ absurd (ne (loops.single d u v some e t (same v ∙ i)))
      ]

  in_loop : (b : ℕ) → In b → InLoop (leads (edge flow)) s.closed h b
  in_loop b i = (is.round.inside d b i).1

  also : (x b : ℕ) → In x → InLoop (leads (edge flow)) s.closed h b → In b
  also x b i l = is.round.all d x b i l

  header_in : (x : ℕ) → In x → In h
  header_in x i = also x h i (inl refl)

  closed_edge : (u v : ℕ) → s.closed u v ≡ true → edge flow u v ≡ true
  closed_edge u v c = (closes flow s rank is.reduced is.rises).edges u v c

  -- back along a walk that avoids the header
  back : (k b u : ℕ) → Avoids (leads (edge flow)) h b u k → In u → (b ≡ u) ⊎ Tour b u
  back zero b u a i = inl a.1
  back (suc k) b u a i =
      let c = a.1.0 in
      let e : edge flow c u ≡ true = a.1.2.0 in
      let inside : In c = into c u e i a.1.2.1 in
      elim (back k b c (a.0, a.1.1) inside) as (λ _. (b ≡ u) ⊎ Tour b u) [
        | inl t ↦ inr ([], tt, subst (λ (x : ℕ). edge flow x u ≡ true) (sym t) e)
        | inr t ↦ inr (c ∷ t.0, (inside, t.1), (e, t.2))
      ]

  -- from the header to each block
  onward : (b c : ℕ) → edge flow c b ≡ true → In c → (h ≡ c) ⊎ Tour h c → (h ≡ b) ⊎ Tour h b
  onward b c e inside (inl t) = inr ([], tt, subst (λ (x : ℕ). edge flow x b ≡ true) (sym t) e)
  onward b c e inside (inr t) = inr (c ∷ t.0, (inside, t.1), (e, t.2))

  down : (k b : ℕ) → Walk (leads (edge flow)) flow.entry b k → In b → (h ≡ b) ⊎ Tour h b
  down zero b w i =
      elim (eqb_tells b h) as (λ _. (h ≡ b) ⊎ Tour h b) [
        | inl t ↦ inl (sym t.1)
        | inr t ↦ absurd (t.1 (sym w ∙ loops.entered d some (same flow.entry ∙ subst In (sym w) i)))
      ]
  down (suc k) b w i =
      elim (eqb_tells b h) as (λ _. (h ≡ b) ⊎ Tour h b) [
        | inl t ↦ inl (sym t.1)
        | inr t ↦ let inside = into w.0 b w.2 i t.1 in onward b w.0 w.2 inside (down k w.0 w.1 inside)
      ]

  from_header : (b : ℕ) → In b → (h ≡ b) ⊎ Tour h b
  from_header b i = let r = reach b (is.round.blocks d b i) in down r.0 b r.1 i

  -- the source of a closing edge is in the loop
  source_in : (x u : ℕ) → In x → s.closed u h ≡ true → In u
  source_in x u i c =
      elim (eqb_tells u h) as (λ _. In u) [
        | inl t ↦ subst In (sym t.1) (header_in x i)
        | inr t ↦ also x u i (inr (u, 0, c, (t.1, refl)))
      ]

  -- the header closes a loop
  is_header : (b : ℕ) → In b → IsHeader s.closed h
  is_header b i = by_loop (in_loop b i)
    where
      by_number : (e : ℕ) → d ≡ suc e → (o : Option LoopInfo) → slice_get n.loops e ≡ o → b ≡ h → IsHeader s.closed h
      by_number e is_suc None get t =
          let far : h ≡ flow.count = ap (header_of flow n) is_suc ∙ ap (header_or flow.count) get in
          let lt : b < flow.count = is.round.blocks d b i in
          absurd (omega (arith, far, lt, t))
      by_number e is_suc (Some info) get t =
          let here : h ≡ info.header = ap (header_of flow n) is_suc ∙ ap (header_or flow.count) get in
          subst (IsHeader s.closed) (sym here) ((is.loops.headers info.header).0 (in_map n.loops e info get))
        where
          in_map : (xs : List LoopInfo) (k : ℕ) (x : LoopInfo) → slice_get xs k ≡ Some x
              → holds nat_eq x.header (map (λ (y : LoopInfo). y.header) xs) ≡ true
          in_map [] zero x g = absurd (none_some LoopInfo x g)
          in_map [] (suc k) x g = absurd (none_some LoopInfo x g)
          in_map (y ∷ ys) zero x g = subst (λ (z : LoopInfo). holds nat_eq z.header (map (λ (v : LoopInfo). v.header) (y ∷ ys)) ≡ true)
              (some_same LoopInfo y x g)
              (holds_first ℕ nat_equality y.header (map (λ (v : LoopInfo). v.header) ys))
          in_map (y ∷ ys) (suc k) x g = holds_later x.header y.header (map (λ (v : LoopInfo). v.header) ys) (in_map ys k x g)

      numbered : (k : ℕ) → d ≡ k → b ≡ h → IsHeader s.closed h
      numbered zero e t = absurd (some e)
      numbered (suc e) is_suc t = by_number e is_suc (slice_get n.loops e) refl t

      by_loop : InLoop (leads (edge flow)) s.closed h b → IsHeader s.closed h
      by_loop (inl t) = numbered d refl t
      by_loop (inr t) = (t.0, t.2)

  joined : (a : ℕ) (us : List ℕ) (q : ℕ) (vs : List ℕ) (b : ℕ) → Path (edge flow) a us q → Path (edge flow) q vs b
      → Path (edge flow) a (vs ++ q ∷ us) b
  joined a us q [] b p k = (k, p)
  joined a us q (v ∷ vs) b p k = (k.0, joined a us q vs v p k.1)

  all_joined : (xs ys : List ℕ) → AllByRecursion In xs → AllByRecursion In ys → AllByRecursion In (xs ++ ys)
  all_joined [] ys a b = b
  all_joined (x ∷ xs) ys a b = (a.0, all_joined xs ys a.1 b)

  then : (a q b : ℕ) → In q → Tour a q → Tour q b → Tour a b
  then a q b i t u = (u.0 ++ q ∷ t.0, all_joined u.0 (q ∷ t.0) u.1 (i, t.1), joined a t.0 q u.0 b t.2 u.2)

  -- from a block to the header
  up : (b : ℕ) → In b → Tour b h
  up b i = by_loop (in_loop b i)
    where
      turn : (u : ℕ) → s.closed u h ≡ true → Tour u h
      turn u c = ([], tt, closed_edge u h c)

      after : (x u : ℕ) → s.closed u h ≡ true → (x ≡ u) ⊎ Tour x u → Tour x h
      after x u c (inl t) = subst (λ (y : ℕ). Tour y h) (sym t) (turn u c)
      after x u c (inr t) = then x u h (source_in b u i c) t (turn u c)

      by_loop : InLoop (leads (edge flow)) s.closed h b → Tour b h
      by_loop (inl t) =
          let c = is_header b i in
          subst (λ (y : ℕ). Tour y h) (sym t) (after h c.0 c.1 (from_header c.0 (source_in b c.0 i c.1)))
      by_loop (inr t) = after b t.0 t.2 (back t.1 b t.0 t.3 (source_in b t.0 i t.2))

  pub round_trip : (b c : ℕ) → In b → In c → Tour b c
  round_trip b c i j =
      elim (from_header c j) as (λ _. Tour b c) [
        | inl t ↦ subst (Tour b) t (up b i)
        | inr t ↦ then b h c (header_in b i) (up b i) t
      ]
