use Rattle.std.proofs.Common.{◌≡◌, ◌≤◌, ◌-◌, drop, take, ◌++◌, vec_len}
use Rattle.row_elimination.specs.Steps.{without_alike}
use Rattle.row_elimination.proofs.steps.remove_alike.Given as goal

abbrev pub invariant-loop-place : goal.invariant-loop-place
invariant-loop-place l = record {
  told : take l.place l.rows.items ++ without_alike l.row (drop l.place l.rows.items) ≡ without_alike l.row l.fn.rows.items;
  within : l.place ≤ vec_len l.rows;
}

abbrev pub decreases-loop-place : goal.decreases-loop-place
decreases-loop-place l = vec_len l.rows - l.place
