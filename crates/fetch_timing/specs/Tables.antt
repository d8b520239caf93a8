-- How the instruction cache is kept in a table.
use Rattle.std.specs.Prelude.{◌≡◌, ℕ, ◌+◌, ◌^◌, ◌==◌, ◌≤◌, if◌then◌else◌, List, [], ◌∷◌, length}
use Rattle.std.specs.List.{AllByRecursion}

-- what stands in places where one line after the other moves up, until the line that goes to the front
abbrev pub pushed : ℕ → ℕ → List ℕ → List ℕ
pushed carried line [] = []
pushed carried line (l ∷ lines) = carried ∷ (if l == line then lines else pushed l line lines)

-- the table of a cache: 2 ^ k sets, each with at most as many lines as the ways
pub record IsTable (ways mask : ℕ) (sets : List (List ℕ)) : Type 0 where
  pub some_way : 1 ≤ ways
  pub few_ways : ways ≤ 16
  pub power : (k : ℕ) × (length sets ≡ 2 ^ k) × (mask + 1 ≡ 2 ^ k)
  pub few_lines : AllByRecursion (λ lines. length lines ≤ ways) sets
