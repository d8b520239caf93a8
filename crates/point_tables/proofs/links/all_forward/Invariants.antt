use Rattle.std.proofs.Common.{length, ◌-◌, ◌≤◌}
use Rattle.basic_blocks.specs.Chains.{is_flagged}
use Rattle.point_tables.specs.Numbers.{IsLink, IsTableOf}
use Rattle.point_tables.specs.Targets.{step_in}
use Rattle.basic_blocks.specs.LivePoints.{before}
use Rattle.point_tables.proofs.links.all_forward.Given as goal

abbrev pub invariant-loop-at : goal.invariant-loop-at
invariant-loop-at l = record {
  table : IsTableOf (IsLink (step_in l.table) (before l.rows) (is_flagged l.flags) (length l.table) l.entry) l.at l.only;
  within : l.at ≤ length l.table;
}

abbrev pub decreases-loop-at : goal.decreases-loop-at
decreases-loop-at l = length l.table - l.at
