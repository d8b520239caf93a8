-- The table of all points, and what the search keeps of it.
use Rattle.std.specs.Prelude.{◌≡◌, ◌≢◌, ℕ, zero, suc, ◌<◌, ◌≤◌, ◌/◌, ◌^◌, Bool, true, false, List, [], ◌∷◌, get_or}
use Rattle.std.specs.Prelude.{length}
use Rattle.std.specs.Prelude.{Option, Some, None, IfSome, IsSomeAnd, option_map, slice_get, slice_set}
use Rattle.path_facts.specs.Facts.{Location}
use Rattle.path_facts.specs.Facts.Location.{Register, StackWord}
use Rattle.fact_lattice.specs.Cells.{AbstractState, joined}
use Rattle.fact_lattice.specs.Searches.{joined_at}
use Rattle.fact_lattice.specs.Weights.{IsFormed, weight_below}
use Rattle.copy_facts.specs.declared.sites.Site.{Site}
use Rattle.copy_facts.specs.declared.tables.PointFacts.{PointFacts}
use Rattle.copy_facts.specs.Tables.{IsTable, state_of_point}

-- what is known of each point that was reached
abbrev pub map_of : List (Option PointFacts) → ℕ → Option AbstractState
map_of facts p = option_map state_of_point (get_or facts p None)

-- the words of a stack
abbrev pub words_to : ℕ → List ℕ
words_to zero = []
words_to (suc n) = suc n ∷ words_to n

abbrev pub registers_to : ℕ → List Location
registers_to zero = []
registers_to (suc r) = Register r ∷ registers_to r

abbrev pub locations_to : ℕ → List Location
locations_to zero = registers_to 15
locations_to (suc n) = StackWord (suc n) ∷ locations_to n

-- the locations of a stack of this number of bytes
abbrev pub stack_locations : ℕ → List Location
stack_locations stack = locations_to (stack / 4)

abbrev pub stack_words : ℕ → List ℕ
stack_words stack = words_to (stack / 4)

abbrev pub weight_of_points : ℕ → List (Option PointFacts) → ℕ
weight_of_points stack facts =
    weight_below stack (stack_locations stack) (stack_words stack) (map_of facts) (length facts)

-- the targets of a point are numbers of points, or the number after the last one's
pub record IsInside (count : ℕ) (site : Site) : Type 0 where
  pub done : IfSome site.targets.done (λ j. j ≤ count)
  pub skipped : IfSome site.targets.skipped (λ j. j ≤ count)

-- the table is in order
pub record ArePoints (stack : ℕ) (sites : List Site) (facts : List (Option PointFacts)) : Type 0 where
  pub small : stack < 2 ^ 31
  pub few : length sites < 2 ^ 32
  pub long : length facts ≡ length sites
  pub tables : (p : ℕ) (t : PointFacts) → get_or facts p None ≡ Some t → IsTable t
  pub formed : (p : ℕ) → IfSome (map_of facts p) (IsFormed (stack_locations stack) (stack_words stack))
  pub inside : (p : ℕ) (site : Site) → slice_get sites p ≡ Some site → IsInside (length sites) site

-- what replaces what is known of a point, where one way more brings something new
pub record Replaces (stack : ℕ) (old : Option PointFacts) (next : AbstractState) (t : PointFacts) : Type 0 where
  pub table : IsTable t
  pub joined : state_of_point t ≡ joined_at stack (option_map state_of_point old) next
  pub differs : option_map state_of_point old ≢ Some (joined_at stack (option_map state_of_point old) next)

-- or it brings nothing new
abbrev pub Stays : ℕ → Option PointFacts → AbstractState → Type 0
Stays stack old next = IsSomeAnd (option_map state_of_point old) (λ m. joined stack m next ≡ m)

-- a way more is met at a point
abbrev pub IsMet : ℕ → List (Option PointFacts) → ℕ → AbstractState → List (Option PointFacts) → Bool → Type 0
IsMet stack old q next new true =
    (t : PointFacts) × Replaces stack (get_or old q None) next t × (new ≡ slice_set old q (Some t))
IsMet stack old q next new false = Stays stack (get_or old q None) next × (new ≡ old)
