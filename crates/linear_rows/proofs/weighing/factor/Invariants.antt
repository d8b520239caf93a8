use Rattle.std.proofs.Common.{◌≡◌, drop}
use Rattle.linear_rows.specs.Terms.{factor_of}
use Rattle.linear_rows.proofs.weighing.factor.Given as goal

abbrev pub invariant-loop-term : goal.invariant-loop-term
invariant-loop-term l = factor_of l.var (drop l.term-index l.terms) ≡ factor_of l.var l.terms
