use Rattle.std.proofs.Common.{◌≡◌, ◌≤◌, ◌+◌, ◌-◌, ◌^◌, drop}
use Rattle.std.specs.Prelude.{min}
use Rattle.std.specs.List.{AllByRecursion}
use Rattle.response_times.specs.Responses.{IsTask, demand}
use Rattle.response_times.proofs.windows.asked.Given as goal

abbrev pub invariant-loop-task : goal.invariant-loop-task
invariant-loop-task l = record {
  sums : min (l.sum + demand (drop l.task-index l.tasks) l.window) (2 ^ 128 - 1) ≡ min (demand l.tasks l.window) (2 ^ 128 - 1);
  most : l.sum ≤ 2 ^ 128 - 1;
  tasks : AllByRecursion IsTask (drop l.task-index l.tasks);
}
