use Rattle.std.proofs.Common.{◌≡◌, ◌≤◌, ◌^◌, drop}
use Rattle.report_rules.specs.Following.{coefs_from}
use Rattle.report_rules.proofs.atom_lines.coefs_ascend.Given as goal

abbrev pub invariant-loop-coef : goal.invariant-loop-coef
invariant-loop-coef l = (coefs_from l.params l.least (drop l.coef-index l.coefs) ≡ coefs_from l.params 0 l.coefs) × (l.least ≤ 2 ^ 32)
