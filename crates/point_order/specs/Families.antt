-- The order of lists of open calls.
use Rattle.std.specs.Prelude.{◌≡◌, ℕ, ◌<◌, Contains, List, [], ◌∷◌, ◌++◌, length, get_or, map}
use Rattle.std.specs.Ordering.{nat_cmp}
use Rattle.std.specs.declared.cmp.Ordering.TheVariants.{Less}
use Rattle.std.specs.Cmp.Lexicographic.{slice_cmp}
use Rattle.basic_blocks.specs.Blocks.{Ascending}

abbrev pub Lower : List ℕ → List ℕ → Type 0
Lower xs ys = slice_cmp nat_cmp xs ys ≡ Less

-- begun by s
abbrev pub Begun : List ℕ → List ℕ → Type 0
Begun s l = (m : List ℕ) × (s ++ m ≡ l)

abbrev pub list_at : List (List ℕ) → ℕ → List ℕ
list_at ls k = get_or ls k []

abbrev pub IsChild : List (List ℕ) → ℕ → ℕ → ℕ → Type 0
IsChild ls k c r = list_at ls c ≡ list_at ls k ++ r ∷ []

-- each list's children by their numbers, the last first
pub record AreFamilies (ls : List (List ℕ)) (children : List (List ℕ)) : Type 0 where
  pub long : length children ≡ length ls
  pub some : 0 < length ls
  pub root : list_at ls 0 ≡ []
  pub child : (k c : ℕ) → Contains (get_or children k []) c → (c < length ls) × ((r : ℕ) × IsChild ls k c r)
  pub whole : (k r : ℕ) (l : List ℕ) → k < length ls → Contains ls l → Begun (list_at ls k ++ r ∷ []) l → (c : ℕ)
      × Contains (get_or children k []) c × IsChild ls k c r
  pub falling : (k : ℕ) → Ascending (λ c d. (r q : ℕ) → IsChild ls k c r → IsChild ls k d q → q < r)
      (get_or children k [])

abbrev pub HaveFamilies : List (List ℕ) → Type 0
HaveFamilies children = (ls : List (List ℕ)) × AreFamilies ls children

pub record IsOrder (ls : List (List ℕ)) (order : List ℕ) : Type 0 where
  pub ascending : Ascending Lower (map (list_at ls) order)
  pub below : (c : ℕ) → Contains order c → c < length ls
  pub all : (l : List ℕ) → Contains ls l → Contains (map (list_at ls) order) l
