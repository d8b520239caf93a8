use Rattle.std.proofs.Common.{◌≡◌, drop}
use Rattle.report_rules.specs.Following.{costs_ok}
use Rattle.report_rules.proofs.head_lines.costs_ok.Given as goal

abbrev pub invariant-loop-cost : goal.invariant-loop-cost
invariant-loop-cost l = costs_ok (drop l.cost-index l.costs) ≡ costs_ok l.costs
