use Rattle.std.proofs.Common.{◌≡◌, ◌≤◌, ◌^◌, drop}
use Rattle.report_rules.specs.Following.{pairs_from}
use Rattle.report_rules.proofs.proof_lines.pairs_ascend.Given as goal

abbrev pub invariant-loop-pair : goal.invariant-loop-pair
invariant-loop-pair l = (pairs_from l.least (drop l.pair-index l.pairs) ≡ pairs_from 0 l.pairs) × (l.least ≤ 2 ^ 64)
