-- Response times of periodic tasks under fixed priorities, by the response-time equation of preemptive scheduling on one
-- processor (Joseph and Pandya, Finding response times in a real-time system, 1986).
use Rattle.std.specs.Prelude.{◌≡◌, ℕ, ◌+◌, ◌-◌, ◌*◌, ◌/◌, ◌<◌, ◌≤◌, ◌^◌, List, [], ◌∷◌, Option, Some, None, length}
use Rattle.std.specs.Prelude.{slice_get, take}
use Rattle.response_times.specs.declared.tasks.Task.{Task}

-- the number of times that a task of a period is released in a window that begins with a release
abbrev pub releases : ℕ → ℕ → ℕ
releases window period = (window + (period - 1)) / period

-- what tasks ask of the processor in a window in which each is released at the start
abbrev pub demand : List Task → ℕ → ℕ
demand [] window = 0
demand (t ∷ ts) window = releases window t.period * t.cost + demand ts window

-- a window in which a task is done once, with all that tasks of higher priority ask in it
abbrev pub IsWindow : List Task → Task → ℕ → Type 0
IsWindow higher t window = window ≡ t.cost + demand higher window

-- The response time is the least such window, where that ends by the deadline; none where no such window does.
abbrev pub IsResponse : List Task → Task → Option ℕ → Type 0
IsResponse higher t (Some r) =
    IsWindow higher t r × (r ≤ t.deadline) × ((w : ℕ) → IsWindow higher t w → r ≤ w)
IsResponse higher t None = (w : ℕ) → IsWindow higher t w → t.deadline < w

-- cost below 2^127 cycles; period and deadline are 1 to 1,000,000,000 cycles
pub record IsTask (t : Task) : Type 0 where
  pub cost : t.cost < 2 ^ 127
  pub some_period : 0 < t.period
  pub period : t.period ≤ 1000000000
  pub some_deadline : 0 < t.deadline
  pub deadline : t.deadline ≤ 1000000000

-- the response of each task, those before it in the list having higher priority
pub record AreResponses (tasks : List Task) (responses : List (Option ℕ)) : Type 0 where
  pub all : length responses ≡ length tasks
  pub each : (i : ℕ) (t : Task) (r : Option ℕ) → slice_get tasks i ≡ Some t → slice_get responses i ≡ Some r
      → IsResponse (take i tasks) t r
