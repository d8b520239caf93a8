use Rattle.std.specs.List.{AllByRecursion}
use Rattle.response_times.specs.Responses.{IsTask}
use Rattle.response_cases.proofs.tasks.Given as goal

abbrev pub invariant-loop-word : goal.invariant-loop-word
invariant-loop-word l = AllByRecursion IsTask l.tasks.items
