use Rattle.std.proofs.Common.{◌≡◌}
use Rattle.row_elimination.specs.Steps.{with_each}
use Rattle.row_elimination.proofs.steps.keep_each.Given as goal

abbrev pub invariant-loop-row : goal.invariant-loop-row
invariant-loop-row l = l.kept.items ≡ with_each l.fn.kept.items l.yielded
