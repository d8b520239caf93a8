use Rattle.std.proofs.Common.{◌≡◌, ◌≤◌, ◌-◌, ℕ, length, take}
use Rattle.std.specs.Prelude.{Option, Some, slice_get}
use Rattle.response_times.specs.declared.tasks.Task.{Task}
use Rattle.response_times.specs.Responses.{IsResponse}
use Rattle.response_times.proofs.tasks.responses.Given as goal

abbrev pub invariant-loop-place : goal.invariant-loop-place
invariant-loop-place l = record {
  count : length l.found.items ≡ l.place;
  within : l.place ≤ length l.tasks;
  each : (i : ℕ) (t : Task) (r : Option ℕ) → slice_get l.tasks i ≡ Some t → slice_get l.found.items i ≡ Some r
      → IsResponse (take i l.tasks) t r;
}

abbrev pub decreases-loop-place : goal.decreases-loop-place
decreases-loop-place l = length l.tasks - l.place
