use Rattle.std.proofs.Common.{◌≡◌, ◌+◌, ◌^◌, ◌<◌, drop}
use Rattle.cost_multiset.specs.CostLists.{places}
use Rattle.report_elements.proofs.constants.few.Given as goal

abbrev pub invariant-loop-run : goal.invariant-loop-run
invariant-loop-run l = (l.room + places l.runs ≡ 2 ^ 63 + places (drop l.run-index l.runs)) × (0 < l.room)
