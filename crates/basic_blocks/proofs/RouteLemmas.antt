-- Routes from a point.
use Rattle.std.proofs.Common.{◌≡◌, refl, sym, subst, suc, List, ◌∷◌}
use Rattle.std.specs.Prelude.{Contains}
use Rattle.control_flow.specs.Routes.{Way, Taken, Goes, IsReached, IsRoute, IsLive, place_of}
use Rattle.control_flow.specs.Routes.Place.{At, Exit}

pub at_same : {A : Type 0} (a b : A) → At a ≡ At b → a ≡ b
at_same a b e = cc

pub exit_apart : {A : Type 0} (a : A) → Exit ≡ At a → ⊥
exit_apart a e = cc

-- a route that begins at a point
abbrev pub IsRouteFrom : {A : Type 0} → (A → List (Way A)) → A → List (Taken A) → Type 0
IsRouteFrom ways p xs = IsRoute ways xs × (place_of xs ≡ At p)

module _ (A : Type 0) (ways : A → List (Way A)) (start : A) where
  -- a way before a route
  pub before_route : (p q : A) → Goes ways p q → (xs : List (Taken A)) → IsRouteFrom ways q xs → (ys : List (Taken A))
      × IsRouteFrom ways p ys
  before_route p q g xs r =
      (record { point = p; done = g.0 } ∷ xs, ((subst (λ z. Contains (ways p) (record { done = g.0; to = z })) (sym r.1) g.1, r.0), refl))

  -- what is reached before a live point is live
  pub live_before : (p q : A) → IsReached ways start p → Goes ways p q → IsLive ways start q → IsLive ways start p
  live_before p q c g l = let r = before_route p q g l.1.0 (l.1.1, l.1.2) in (c, (r.0, r.1.0, r.1.1))

  pub live_after : (p q : A) (xs : List (Taken A)) → IsReached ways start p → Goes ways p q → IsRouteFrom ways q xs → IsLive ways start q
  live_after p q xs c g r = ((suc c.0, (p, c.1, g)), (xs, r.0, r.1))
