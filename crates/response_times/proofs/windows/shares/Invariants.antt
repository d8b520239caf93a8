use Rattle.std.proofs.Common.{◌≡◌, ◌≤◌, ◌+◌, ◌*◌, ◌^◌, drop}
use Rattle.std.specs.List.{AllByRecursion}
use Rattle.response_times.specs.Responses.{IsTask}
use Rattle.response_times.specs.Shares.{shares_of}
use Rattle.response_times.proofs.windows.shares.Given as goal

abbrev pub invariant-loop-task : goal.invariant-loop-task
invariant-loop-task l = record {
  sums : l.sum + shares_of (drop l.task-index l.tasks) ≡ shares_of l.tasks;
  most : l.sum ≤ l.task-index * (1000000000 * 2 ^ 64);
  tasks : AllByRecursion IsTask (drop l.task-index l.tasks);
}
