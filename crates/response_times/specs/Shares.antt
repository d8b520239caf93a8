-- The share of the processor's time that tasks take at least, of 2^64 parts.
use Rattle.std.specs.Prelude.{ℕ, ◌+◌, ◌*◌, ◌/◌, ◌≤◌, ◌^◌, if◌then◌else◌, nat_lt, List, [], ◌∷◌}
use Rattle.response_times.specs.Responses.{IsWindow}
use Rattle.response_times.specs.declared.tasks.Task.{Task}

abbrev pub share_of : Task → ℕ
share_of t = if nat_lt 1000000000 t.cost then 2 ^ 64 else t.cost * 2 ^ 64 / t.period

abbrev pub shares_of : List Task → ℕ
shares_of [] = 0
shares_of (t ∷ ts) = share_of t + shares_of ts

-- no window of a task is below this
abbrev pub IsBelowWindows : List Task → Task → ℕ → Type 0
IsBelowWindows higher t x = (w : ℕ) → IsWindow higher t w → x ≤ w
