use Rattle.std.proofs.Common.{◌≡◌}
use Rattle.row_elimination.specs.Steps.{without, with_var}
use Rattle.row_elimination.proofs.steps.part.Given as goal

abbrev pub invariant-loop-row : goal.invariant-loop-row
invariant-loop-row l = record {
  without : l.without.items ≡ without l.var l.yielded;
  mentioning : l.with.items ≡ with_var l.var l.yielded;
}
