use Rattle.std.proofs.Common.{◌≡◌, length}
use Rattle.report_rules.specs.Following.{terms_cmp}
use Rattle.report_rules.proofs.row_lines.terms_order.Given as goal

abbrev pub invariant-loop-x : goal.invariant-loop-x
invariant-loop-x l = terms_cmp l.first l.second ≡ terms_cmp l.fn.first l.fn.second

abbrev pub decreases-loop-x : goal.decreases-loop-x
decreases-loop-x l = length l.first
