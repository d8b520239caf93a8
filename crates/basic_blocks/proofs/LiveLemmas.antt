-- A search backwards from Exit finds the points from which a route leads out.
use Rattle.std.proofs.Common.{◌≡◌, refl, sym, ap, ◌∙◌, subst, ℕ, zero, suc, ◌<◌, ◌≤◌, inl, inr, true, List, [], ◌∷◌, length, get_or, arith}
use Rattle.std.specs.Prelude.{◌↔◌, ◌≢◌, Contains, nat_eq}
use Rattle.std.proofs.lemmas.Bool.{cases_eq}
use Rattle.std.proofs.lemmas.List.{get_or_default}
use Rattle.graph_search.specs.NodeLists.{holds}
use Rattle.graph_search.specs.Walks.{Walk, Reached}
use Rattle.graph_search.specs.Searches.{steps_to}
use Rattle.control_flow.specs.Routes.{Way, Taken, IsLive, IsReached}
use Rattle.control_flow.specs.Routes.Place.{At, Exit}
use Rattle.basic_blocks.specs.LivePoints.{AreRows, before}
use Rattle.basic_blocks.proofs.RouteLemmas.{IsRouteFrom, at_same, before_route, exit_apart}

module _ {A : Type 0} (ways : A → List (Way A)) (start : A) (ps : List A) (rows : List (List ℕ)) (are : AreRows ways start ps rows) where
  abbrev at : ℕ → A
  at i = get_or ps i start

  abbrev E : ℕ → ℕ → Type 0
  E = steps_to nat_eq (before rows)

  less_or_same : (c n : ℕ) → c ≤ n → c ≢ n → c < n
  less_or_same c n le ne = grind (arith, le, ne)

  reached_within : (k c : ℕ) → Walk E (length ps) c k → c ≤ length ps
  reached_within zero c w = omega (arith, w)
  reached_within (suc k) c w = let l = are.inside c w.0 (reached_within k w.0 w.1) w.2 in omega (arith, l)

  pub back_route : (k i : ℕ) → i < length ps → Walk E (length ps) i k → (xs : List (Taken A)) × IsRouteFrom ways (at i) xs
  back_route zero i l w = absurd (omega (arith, l, w))
  back_route (suc k) i l w =
      elim (cases_eq w.0 (length ps)) as (λ _. (xs : List (Taken A)) × IsRouteFrom ways (at i) xs) [
        | inl e ↦
            let out = (are.exits i l).0 (subst (λ c. holds nat_eq i (get_or rows c []) ≡ true) e w.2) in
            (record { point = at i; done = out.0 } ∷ [], ((out.1, tt), refl))
        | inr ne ↦
            let m = less_or_same w.0 (length ps) (reached_within k w.0 w.1) ne in
            let r = back_route k w.0 m w.1 in
            before_route A ways start (at i) (at w.0) ((are.goes i w.0 l m).0 w.2) r.0 r.1
      ]

  number : (p : A) → IsReached ways start p → (i : ℕ) × (i < length ps) × (at i ≡ p)
  number p c = let i = are.all p c in (i.0, i.1, get_or_default ps i.0 start p i.1 ∙ i.2)

  at_collected : (i : ℕ) → i < length ps → IsReached ways start (at i)
  at_collected i l = are.only (at i) (i, l, get_or_default ps i (at i) start l)

  pub route_back : (xs : List (Taken A)) (i : ℕ) → i < length ps → IsRouteFrom ways (at i) xs → Reached E (length ps) i
  route_back [] i l r = absurd (exit_apart (at i) r.1)
  route_back (x ∷ []) i l r =
      let e = at_same x.point (at i) r.1 in
      (1, (length ps, refl, (are.exits i l).1 (x.done, subst (λ z. Contains (ways z) (record { done = x.done; to = Exit })) e r.0.0)))
  route_back (x ∷ y ∷ xs) i l r =
      let e = at_same x.point (at i) r.1 in
      let way : Contains (ways (at i)) (record { done = x.done; to = At y.point }) = subst
      (λ z. Contains (ways z) (record { done = x.done; to = At y.point })) e r.0.0 in
      let c = at_collected i l in
      let j = number y.point (suc c.0, (at i, c.1, (x.done, way))) in
      let back = route_back (y ∷ xs) j.0 j.1 (r.0.1, ap At (sym j.2)) in (
        suc back.0,
        (
          j.0,
          back.1,
          (are.goes i j.0 l j.1).1 (
            x.done,
            subst (λ z. Contains (ways (at i)) (record { done = x.done; to = At z }))
                (sym j.2) way,
          ),
        ),
      )

  pub live_is_reached : (i : ℕ) → i < length ps → IsLive ways start (at i) ↔ Reached E (length ps) i
  live_is_reached i l = (
    (λ v. route_back v.1.0 i l (v.1.1, v.1.2)),
    (λ r. let back = back_route r.0 i l r.1 in (at_collected i l, (back.0, back.1.0, back.1.1))),
  )
