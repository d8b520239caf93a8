-- Lines that stay in the cache while few others of their set are fetched.
use Rattle.std.specs.Prelude.{◌≡◌, ◌≢◌, ◌⊎◌, ℕ, ◌%◌, true, List, [], ◌∷◌, ◌++◌}
use Rattle.std.specs.List.{AllByRecursion}
use Rattle.fetch_timing.specs.declared.timing.Timing.{Timing}
use Rattle.fetch_timing.specs.Caches.{after_fetch, holds, lines_at}

-- each of the lines is one of these others
abbrev pub AreAmong : List ℕ → List ℕ → Type 0
AreAmong others lines = AllByRecursion (λ line. holds line others ≡ true) lines

-- a line stands in a list, and only some of these others are newer
pub record StandsAfter (others : List ℕ) (line : ℕ) (lines : List ℕ) : Type 0 where
  pub newer : List ℕ
  pub older : List ℕ
  pub parts : lines ≡ newer ++ line ∷ older
  pub among : AreAmong others newer

-- the same in the list of the line's set
abbrev pub StandsIn : Timing → List (List ℕ) → List ℕ → ℕ → Type 0
StandsIn t sets others line = StandsAfter others line (lines_at sets (line % t.sets))

-- a fetch of the line itself, of one of these others, or of a line of another set
abbrev pub Spares : Timing → List ℕ → ℕ → ℕ → Type 0
Spares t others line fetch = (fetch ≡ line) ⊎ ((holds fetch others ≡ true) ⊎ (fetch % t.sets ≢ line % t.sets))

-- the sets after the fetches of some lines, one after another
abbrev pub after_fetches : Timing → List (List ℕ) → List ℕ → List (List ℕ)
after_fetches t sets [] = sets
after_fetches t sets (line ∷ lines) = after_fetches t (after_fetch t sets line) lines
