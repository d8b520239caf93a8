use Rattle.std.proofs.Common.{◌≡◌, drop}
use Rattle.report_rules.specs.Following.{vars_exist}
use Rattle.report_rules.proofs.naming.vars_exist.Given as goal

abbrev pub invariant-loop-term : goal.invariant-loop-term
invariant-loop-term l = vars_exist l.form (drop l.term-index l.terms) ≡ vars_exist l.form l.terms
