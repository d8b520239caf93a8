-- A route goes by blocks.
use Rattle.std.proofs.Common.{◌≡◌, refl, sym, ap, ◌∙◌, subst, ℕ, zero, suc, ◌<◌, ◌≤◌, ◌⊎◌, inl, inr, List, [], ◌∷◌, ◌++◌, length, map}
use Rattle.std.proofs.Common.{arith}
use Rattle.std.specs.Prelude.{Contains}
use Rattle.std.proofs.lemmas.List.{length-append}
use Rattle.control_flow.specs.Routes.Place.{At, Exit}
use Rattle.control_flow.specs.Routes.{Way, Taken, Goes, Leaves, IsLive, IsReached}
use Rattle.basic_blocks.specs.Blocks.{IsOnlyWay, Chain, points, last_of, IsChain, AreBlocks, AreVisits, together}
use Rattle.basic_blocks.proofs.BlockLemmas.{first_or_before, only_one}
use Rattle.basic_blocks.proofs.RouteLemmas.{IsRouteFrom, at_same, exit_apart, live_after, live_before}

module _ {A : Type 0} (ways : A → List (Way A)) (start : A) where
  abbrev pub passed : List (Taken A) → List A
  passed v = map (λ (x : Taken A). x.point) v

  -- what a route does at the end of a chain: out of the function, or on to a point from which the rest is a route
  abbrev pub GoesOn : A → List (Taken A) → Type 0
  GoesOn p xs = ((xs ≡ []) × Leaves ways p) ⊎ ((q : A) × (y : Taken A) × (ys : List (Taken A)) × (xs ≡ y ∷ ys) × Goes ways p q
      × IsRouteFrom ways q (y ∷ ys))

  -- a route from a chain's first point passes the chain
  through : (p : A) (ps : List A) → IsChain (IsOnlyWay ways start) p ps → IsReached ways start p → (xs : List (Taken A))
      → IsRouteFrom ways p xs
      → (v rest : List (Taken A)) × (v ++ rest ≡ xs) × (passed v ≡ p ∷ ps) × GoesOn (last_of p ps) rest
  through p ps c k [] r = absurd (exit_apart p r.1)
  through p [] c k (x ∷ []) r =
      let e = at_same x.point p r.1 in (
        x ∷ [],
        [],
        refl,
        ap (λ z. z ∷ []) e,
        inl (
          refl,
          (
            x.done,
            subst
                (λ z. Contains (ways z) (record { done = x.done; to = Exit })) e r.0.0,
          ),
        ),
      )
  through p [] c k (x ∷ y ∷ xs) r =
      let e = at_same x.point p r.1 in (
        x ∷ [],
        y ∷ xs,
        refl,
        ap (λ z. z ∷ []) e,
        inr (
          y.point,
          y,
          xs,
          refl,
          (x.done, subst (λ z. Contains (ways z) (record { done = x.done; to = At y.point })) e r.0.0),
          (r.0.1, refl),
        ),
      )
  through p (q ∷ ps) c k (x ∷ []) r =
      let e = at_same x.point p r.1 in
      absurd (c.0.stays (x.done, subst (λ z. Contains (ways z) (record { done = x.done; to = Exit })) e r.0.0))
  through p (q ∷ ps) c k (x ∷ y ∷ xs) r =
      let e = at_same x.point p r.1 in
      let g : Goes ways p y.point = (x.done, subst (λ z. Contains (ways z) (record { done = x.done; to = At y.point })) e r.0.0) in
      let live = live_after A ways start p y.point (y ∷ xs) k g (r.0.1, refl) in
      let same : y.point ≡ q = c.0.one y.point live g in
      let t = through q ps c.1 c.0.live.0 (y ∷ xs) (r.0.1, ap At same) in
      (x ∷ t.0, t.1, ap (λ zs. x ∷ zs) t.2, ap (λ z. z ∷ passed t.0) e ∙ ap (λ zs. p ∷ zs) t.3, t.4)

  -- the whole route

  module _ (bs : List (Chain A)) (are : AreBlocks ways start bs) where
    abbrev pub Begins : A → Type 0
    Begins p = (b : Chain A) × Contains bs b × (b.first ≡ p)

    -- where no only way leads, a block begins
    pub begins : (p : A) → IsLive ways start p → ((r : A) → IsOnlyWay ways start r p → ⊥) → Begins p
    begins p l none =
        let c = are.cover p l in
        elim (first_or_before (IsOnlyWay ways start) (only_one ways start) c.0.first c.0.rest p (are.each c.0 c.1).1.chain c.2) as
        (λ _. Begins p) [
          | inl e ↦ (c.0, c.1, e)
          | inr o ↦ absurd (none o.0 o.1)
        ]

    entry_begins : IsLive ways start start → Begins start
    entry_begins l = begins start l (λ r o. o.inner refl)

    -- a way out of a block's last point leads to a block's first
    next_begins : (p q : A) → IsReached ways start p → ((r : A) → IsOnlyWay ways start p r → ⊥) → Goes ways p q → IsLive ways start q
        → Begins q
    next_begins p q k end g l = begins q l (λ r o. let same : p ≡ r = o.alone p (live_before A ways start p q k g l) g in end q
        (subst (λ z. IsOnlyWay ways start z q) (sym same) o))

    last_collected : (p : A) (ps : List A) → IsChain (IsOnlyWay ways start) p ps → IsReached ways start p → IsReached ways start
        (last_of p ps)
    last_collected p [] c k = k
    last_collected p (q ∷ ps) c k = last_collected q ps c.1 c.0.live.0

    visits : (k : ℕ) (p : A) (xs : List (Taken A)) → length xs ≤ k → IsReached ways start p → IsRouteFrom ways p xs → Begins p →
        (vs : List (List (Taken A))) × AreVisits ways bs p vs × (together vs ≡ xs)
    visits k p [] le c r b = absurd (exit_apart p r.1)
    visits zero p (x ∷ xs) le c r b = absurd (omega (arith, le))
    visits (suc k) p (x ∷ xs) le c r (b, i, e) =
        let w = (are.each b i).1 in
        let kb = subst (λ z. IsReached ways start z) (sym e) c in
        let t = through b.first b.rest w.chain kb (x ∷ xs) (subst (λ z. IsRouteFrom ways z (x ∷ xs)) (sym e) r) in
        elim t.4 as (λ _. (vs : List (List (Taken A))) × AreVisits ways bs p vs × (together vs ≡ x ∷ xs)) [
          | inl out ↦ (t.0 ∷ [], (b, i, e, t.3, out.1), ap (λ zs. t.0 ++ zs) (sym out.0) ∙ t.2)
          | inr on ↦
              let q = on.0 in
              let rest = on.1 ∷ on.2 in
              let kl = last_collected b.first b.rest w.chain kb in
              let l = live_after A ways start (last_of b.first b.rest) q rest kl on.4 on.5 in
              let less = shorter (t.0) (t.1) x xs b.first b.rest t.2 t.3 in
              let long : length rest ≤ k = subst (λ zs. length zs ≤ k) on.3 (omega (arith, less, le)) in
              let vs = visits k q rest long l.0 on.5 (next_begins (last_of b.first b.rest) q kl w.end on.4 l) in
              (t.0 ∷ vs.0, more_visits b p q t.0 vs.0 i e t.3 on.4 vs.1, ap (λ zs. t.0 ++ zs) (vs.2 ∙ sym on.3) ∙ t.2)
        ]
      where
        shorter : (v rest : List (Taken A)) (x : Taken A) (xs : List (Taken A)) (p : A) (ps : List A) → v ++ rest ≡ x ∷ xs → passed v
            ≡ p ∷ ps → length rest < length (x ∷ xs)
        shorter [] rest x xs p ps e f = absurd (cc)
        shorter (y ∷ v) rest x xs p ps e f = let long = ap length e in let sum = length-append v rest in omega (arith, long, sum)

        more_visits : (b : Chain A) (p q : A) (v : List (Taken A)) (vs : List (List (Taken A))) → Contains bs b → b.first ≡ p → passed v
            ≡ points b → Goes ways (last_of b.first b.rest) q → AreVisits ways bs q vs → AreVisits ways bs p (v ∷ vs)
        more_visits b p q v [] i e f g a = absurd a
        more_visits b p q v (w ∷ vs) i e f g a = (b, i, e, f, (q, g, a))

    pub route_visits : (xs : List (Taken A)) → IsRouteFrom ways start xs → (vs : List (List (Taken A))) × AreVisits ways bs start vs ×
        (together vs ≡ xs)
    route_visits xs r = visits (length xs) start xs (omega arith) (0, refl) r (entry_begins ((0, refl), (xs, r.0, r.1)))
