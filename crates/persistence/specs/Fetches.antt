-- Fetches of lines, one after the other, and what was fetched since a line was.
use Rattle.std.specs.Prelude.{ℕ, ◌%◌, ◌==◌, if◌then◌else◌, List, [], ◌∷◌}
use Rattle.fetch_timing.specs.declared.timing.Timing.{Timing}
use Rattle.fetch_timing.specs.Caches.{after_fetch, without}

-- the sets after the fetches of a history, the newest first
abbrev pub after_history : Timing → List (List ℕ) → List ℕ → List (List ℕ)
after_history t sets [] = sets
after_history t sets (m ∷ h) = after_fetch t (after_history t sets h) m

-- the different lines of a line's set that were fetched since the line was, the newest first
abbrev pub recent : ℕ → ℕ → List ℕ → List ℕ
recent sets line [] = []
recent sets line (m ∷ h) = if m == line then [] else (if m % sets == line % sets then m ∷ without m (recent sets line h)
    else recent sets line h)
