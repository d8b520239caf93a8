use Rattle.std.proofs.Common.{◌+◌, ◌-◌, ◌≤◌}
use Rattle.response_times.specs.Responses.{demand}
use Rattle.response_times.specs.Shares.{IsBelowWindows}
use Rattle.response_times.proofs.windows.response.Given as goal

abbrev pub invariant-loop-window : goal.invariant-loop-window
invariant-loop-window l = record {
  below : IsBelowWindows l.higher l.task l.window;
  rises : l.window ≤ l.task.cost + demand l.higher l.window;
}

abbrev pub decreases-loop-window : goal.decreases-loop-window
decreases-loop-window l = l.task.deadline + 1 - l.window
