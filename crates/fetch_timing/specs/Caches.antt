-- The instruction cache: per set a list of lines, the newest first.
use Rattle.std.specs.Prelude.{◌≡◌, ℕ, ◌/◌, ◌%◌, ◌==◌, ◌≤◌, Bool, false, if◌then◌else◌, List, [], ◌∷◌, length, take, replicate, slice_index_or, slice_set}
use Rattle.std.specs.List.{AllByRecursion, list_any}
use Rattle.fetch_timing.specs.declared.timing.Timing.{Timing}

-- whether a line stands in a list
abbrev pub holds : ℕ → List ℕ → Bool
holds line lines = list_any (λ l. l == line) lines

-- the other lines, in their order
abbrev pub without : ℕ → List ℕ → List ℕ
without line [] = []
without line (l ∷ lines) = if l == line then without line lines else l ∷ without line lines

-- the line moves to the front, and the list is cut to the ways
abbrev pub fetched : ℕ → ℕ → List ℕ → List ℕ
fetched ways line lines = take ways (line ∷ without line lines)

-- the lines of one set
abbrev pub lines_at : List (List ℕ) → ℕ → List ℕ
lines_at sets place = slice_index_or sets place []

-- the line that holds an address
abbrev pub line_of : Timing → ℕ → ℕ
line_of t address = address / t.line

-- what the fetch of a line costs on top of its instruction
abbrev pub penalty : Timing → List (List ℕ) → ℕ → ℕ
penalty t sets line = if holds line (lines_at sets (line % t.sets)) then 0 else t.miss

-- the sets after the fetch of a line
abbrev pub after_fetch : Timing → List (List ℕ) → ℕ → List (List ℕ)
after_fetch t sets line = slice_set sets (line % t.sets) (fetched t.ways line (lines_at sets (line % t.sets)))

-- each line stands once
abbrev pub AreDistinct : List ℕ → Type 0
AreDistinct [] = Unit {0}
AreDistinct (l ∷ lines) = (holds l lines ≡ false) × AreDistinct lines

-- the lines of a set: at most as many as the ways, all different, all of this set
pub record IsSet (t : Timing) (place : ℕ) (lines : List ℕ) : Type 0 where
  pub few : length lines ≤ t.ways
  pub distinct : AreDistinct lines
  pub own : AllByRecursion (λ line. line % t.sets ≡ place) lines

-- a list for each set
pub record IsCache (t : Timing) (sets : List (List ℕ)) : Type 0 where
  pub all_sets : length sets ≡ t.sets
  pub each : (place : ℕ) → IsSet t place (lines_at sets place)

-- a cache by itself: the lines that each set may hold, and the sets, each with its lines, the newest first
pub record Cache : Type 0 where
  pub ways : ℕ
  pub sets : List (List ℕ)

-- the cache of a timing without any line
abbrev pub empty_cache : Timing → Cache
empty_cache t = record { ways = t.ways; sets = replicate t.sets [] }

-- the lines of the set that a line belongs to
abbrev pub lines_beside : Cache → ℕ → List ℕ
lines_beside cache line = lines_at cache.sets (line % length cache.sets)

-- the cache after the fetch of a line
abbrev pub cache_after : Cache → ℕ → Cache
cache_after cache line = record cache { sets = slice_set cache.sets (line % length cache.sets) (fetched cache.ways line (lines_beside cache line)) }

-- a cache of a timing
pub record IsCacheOf (t : Timing) (cache : Cache) : Type 0 where
  pub ways : cache.ways ≡ t.ways
  pub sets : IsCache t cache.sets
