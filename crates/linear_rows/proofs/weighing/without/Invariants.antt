use Rattle.std.proofs.Common.{◌≡◌, drop, ◌++◌}
use Rattle.linear_rows.specs.Terms.{without_var}
use Rattle.linear_rows.proofs.weighing.without.Given as goal

abbrev pub invariant-loop-term : goal.invariant-loop-term
invariant-loop-term l = l.out ++ without_var l.var (drop l.term-index l.terms) ≡ without_var l.var l.terms
