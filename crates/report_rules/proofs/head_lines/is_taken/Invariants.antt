use Rattle.std.proofs.Common.{◌≡◌, drop}
use Rattle.report_rules.specs.Following.{is_taken}
use Rattle.report_rules.proofs.head_lines.is_taken.Given as goal

abbrev pub invariant-loop-other : goal.invariant-loop-other
invariant-loop-other l = is_taken l.param (drop l.other-index l.others) ≡ is_taken l.param l.others
