-- Ways from point to point, and what control reaches along them. What a point is doesn't matter here: an address with its
-- open calls, or a number that stands for one.
use Rattle.std.specs.Prelude.{◌≡◌, Bool, Contains, List, [], ◌∷◌}
use Rattle.graph_search.specs.Walks.{Reached}

-- a point, or the place after the function's return
pub data Place (A : Type 0) : Type 0 where
  At : (point : A) → Place A
  Exit : Place A

-- a way from a point: whether the instruction there is done or skipped, and where control goes
pub record Way (A : Type 0) : Type 0 where
  pub done : Bool
  pub to : Place A

-- a way that is taken from a point
pub record Taken (A : Type 0) : Type 0 where
  pub point : A
  pub done : Bool

-- some way leads from p to q
abbrev pub Goes : {A : Type 0} → (A → List (Way A)) → A → A → Type 0
Goes ways p q = (d : Bool) × Contains (ways p) (record { done = d; to = At q })

-- some way leads out of the function
abbrev pub Leaves : {A : Type 0} → (A → List (Way A)) → A → Type 0
Leaves ways p = (d : Bool) × Contains (ways p) (record { done = d; to = Exit })

-- control reaches the point from the first
abbrev pub IsReached : {A : Type 0} → (A → List (Way A)) → A → A → Type 0
IsReached ways first p = Reached (Goes ways) first p

-- the ways that were taken from the first point up to this one, the newest first
abbrev pub IsHistory : {A : Type 0} → (A → List (Way A)) → A → List (Taken A) → A → Type 0
IsHistory ways first [] p = p ≡ first
IsHistory ways first (x ∷ h) p = IsHistory ways first h x.point × Contains (ways x.point) (record { done = x.done; to = At p })

-- where ways that are taken begin; none of them begin at the exit
abbrev pub place_of : {A : Type 0} → List (Taken A) → Place A
place_of [] = Exit
place_of (x ∷ xs) = At x.point

-- each way leads to the point of the next, and the last one out of the function
abbrev pub IsRoute : {A : Type 0} → (A → List (Way A)) → List (Taken A) → Type 0
IsRoute ways [] = Unit {0}
IsRoute ways (x ∷ xs) = Contains (ways x.point) (record { done = x.done; to = place_of xs }) × IsRoute ways xs

-- control reaches the point, and from it the exit
abbrev pub IsLive : {A : Type 0} → (A → List (Way A)) → A → A → Type 0
IsLive {A} ways first p = IsReached ways first p × ((xs : List (Taken A)) × IsRoute ways xs × (place_of xs ≡ At p))
