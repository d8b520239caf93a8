use Rattle.std.proofs.Common.{◌≡◌, drop}
use Rattle.farkas.specs.Deciding.{with_vars}
use Rattle.farkas.proofs.runs.add_vars.Given as goal

abbrev pub invariant-loop-term : goal.invariant-loop-term
invariant-loop-term l = with_vars l.vars.items (drop l.term-index l.terms) ≡ with_vars l.fn.vars.items l.terms
