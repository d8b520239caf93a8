-- Numbered points cut into chains.
use Rattle.std.specs.Prelude.{◌≡◌, ℕ, ◌<◌, Bool, true, false, Contains, Option, Some, None, List, map, length, get_or}
use Rattle.control_flow.specs.Routes.{Way, IsLive}
use Rattle.basic_blocks.specs.Blocks.{IsOnlyWay, Chain, points, IsLongest, Ascending, by_first}

-- the table's entry of p is q
abbrev pub Follows : List (Option ℕ) → ℕ → ℕ → Type 0
Follows only p q = get_or only p None ≡ Some q

-- two tables of as many points, each the other read backwards
pub record AreOpposite (only back : List (Option ℕ)) : Type 0 where
  pub long : length back ≡ length only
  pub forwards : (p q : ℕ) → Follows only p q → Follows back q p
  pub backwards : (p q : ℕ) → Follows back q p → Follows only p q
  pub below : (p q : ℕ) → Follows only p q → q < length only

abbrev pub is_flagged : List Bool → ℕ → Bool
is_flagged flags i = get_or flags i false

-- the flagged numbers' chains
pub record AreChains (only : List (Option ℕ)) (flag : ℕ → Bool) (bs : List (Chain ℕ)) : Type 0 where
  pub longest : (b : Chain ℕ) → Contains bs b → (b.first < length only) × (flag b.first ≡ true) × IsLongest
      (Follows only) b
  pub heads : (p : ℕ) → p < length only → flag p ≡ true → ((r : ℕ) → Follows only r p → ⊥) → (b : Chain ℕ)
      × Contains bs b × (b.first ≡ p)
  pub ascending : Ascending (by_first (λ p q. p < q)) bs

abbrev pub IsSplit : List (Option ℕ) → (ℕ → Bool) → List (List ℕ) → Type 0
IsSplit only flag xss = (bs : List (Chain ℕ)) × (xss ≡ map (λ (b : Chain ℕ). points b) bs) × AreChains only flag bs

abbrev pub IsChainFrom : List (Option ℕ) → ℕ → List ℕ → Type 0
IsChainFrom only p xs = (b : Chain ℕ) × (xs ≡ points b) × (b.first ≡ p) × IsLongest (Follows only) b

abbrev pub mapped : {A B : Type 0} → (A → B) → Chain A → Chain B
mapped f b = record { first = f b.first; rest = map f b.rest }

-- collected points in order, flags at those of the graph, and the table of only ways between their numbers
pub record AreNumbered {A : Type 0} (ways : A → List (Way A)) (start : A) (lt : A → A → Type 0) (ps : List A)
    (flag : ℕ → Bool) (only : List (Option ℕ)) : Type 0 where
  pub live : (i : ℕ) → i < length ps → flag i ≡ true → IsLive ways start (get_or ps i start)
  pub all : (p : A) → IsLive ways start p → (i : ℕ) × (i < length ps) × (get_or ps i start ≡ p) × (flag i ≡ true)
  pub ascending : Ascending lt ps
  pub long : length only ≡ length ps
  pub only_way : (i j : ℕ) → Follows only i j → IsOnlyWay ways start (get_or ps i start) (get_or ps j start)
  pub follows : (i j : ℕ) → i < length ps → j < length ps → IsOnlyWay ways start (get_or ps i start) (get_or ps j start)
      → Follows only i j
