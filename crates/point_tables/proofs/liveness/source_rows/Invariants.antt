use Rattle.std.proofs.Common.{◌-◌, length}
use Rattle.point_tables.proofs.SourceLemmas.{AreBacked}
use Rattle.point_tables.proofs.liveness.source_rows.Given as goal

abbrev pub invariant-loop-at : goal.invariant-loop-at
invariant-loop-at l = AreBacked l.table l.at l.rows.items

abbrev pub decreases-loop-at : goal.decreases-loop-at
decreases-loop-at l = length l.table - l.at
