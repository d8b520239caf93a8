-- Blocks: the longest chains of points that only follow one another.
use Rattle.std.specs.Prelude.{◌≡◌, ◌≢◌, Contains, List, [], ◌∷◌, ◌++◌, map}
use Rattle.control_flow.specs.Routes.{Way, Taken, Goes, Leaves, IsLive}

-- From p control goes to q alone, and to q from p alone, among the points that are live; the entry follows no point
-- alone, since it is where control comes in.
pub record IsOnlyWay {A : Type 0} (ways : A → List (Way A)) (start : A) (p q : A) : Type 0 where
  pub from : IsLive ways start p
  pub live : IsLive ways start q
  pub goes : Goes ways p q
  pub stays : Leaves ways p → ⊥
  pub one : (r : A) → IsLive ways start r → Goes ways p r → r ≡ q
  pub alone : (r : A) → IsLive ways start r → Goes ways r q → r ≡ p
  pub inner : q ≢ start

-- a first point, and those after it
pub record Chain (A : Type 0) : Type 0 where
  pub first : A
  pub rest : List A

abbrev pub points : {A : Type 0} → Chain A → List A
points b = b.first ∷ b.rest

abbrev pub last_of : {A : Type 0} → A → List A → A
last_of p [] = p
last_of p (q ∷ ps) = last_of q ps

-- each point leads to the next
abbrev pub IsChain : {A : Type 0} → (A → A → Type 0) → A → List A → Type 0
IsChain R p [] = Unit {0}
IsChain R p (q ∷ ps) = R p q × IsChain R q ps

-- a chain that can't go on at either end
pub record IsLongest {A : Type 0} (R : A → A → Type 0) (b : Chain A) : Type 0 where
  pub chain : IsChain R b.first b.rest
  pub head : (r : A) → R r b.first → ⊥
  pub end : (r : A) → R (last_of b.first b.rest) r → ⊥

abbrev pub IsBlock : {A : Type 0} → (A → List (Way A)) → A → Chain A → Type 0
IsBlock ways start b = IsLive ways start b.first × IsLongest (IsOnlyWay ways start) b

-- each point of the graph is in one of the chains
abbrev pub Cover : {A : Type 0} → (A → Type 0) → List (Chain A) → Type 0
Cover {A} P bs = (p : A) → P p → (b : Chain A) × Contains bs b × Contains (points b) p

pub record AreBlocks {A : Type 0} (ways : A → List (Way A)) (start : A) (bs : List (Chain A)) : Type 0 where
  pub each : (b : Chain A) → Contains bs b → IsBlock ways start b
  pub cover : Cover (IsLive ways start) bs

-- a route cut into visits: the first begins at p with its block's first point, each passes all points of its block,
-- and leads to the first point of the next one's, the last one out of the function
abbrev pub AreVisits : {A : Type 0} → (A → List (Way A)) → List (Chain A) → A → List (List (Taken A)) → Type 0
AreVisits ways bs p [] = ⊥
AreVisits {A} ways bs p (v ∷ []) = (b : Chain A) × Contains bs b × (b.first ≡ p) ×
    (map (λ (x : Taken A). x.point) v ≡ points b) × Leaves ways (last_of b.first b.rest)
AreVisits {A} ways bs p (v ∷ w ∷ vs) =
    (b : Chain A) × Contains bs b × (b.first ≡ p) × (map (λ (x : Taken A). x.point) v ≡ points b) ×
    ((q : A) × Goes ways (last_of b.first b.rest) q × AreVisits ways bs q (w ∷ vs))

abbrev pub together : {A : Type 0} → List (List A) → List A
together [] = []
together (v ∷ vs) = v ++ together vs

-- each is before all that come after it
abbrev pub Ascending : {A : Type 0} → (A → A → Type 0) → List A → Type 0
Ascending lt [] = Unit {0}
Ascending {A} lt (x ∷ xs) = ((y : A) → Contains xs y → lt x y) × Ascending lt xs

abbrev pub by_first : {A : Type 0} → (A → A → Type 0) → Chain A → Chain A → Type 0
by_first lt b c = lt b.first c.first
