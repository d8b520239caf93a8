use Rattle.std.proofs.Common.{◌≡◌, false, drop, ◌++◌}
use Rattle.row_elimination.specs.Steps.{run, run_fits}
use Rattle.farkas.specs.Placing.{levels_of}
use Rattle.farkas.proofs.runs.eliminate_each.Given as goal

abbrev pub invariant-loop-var : goal.invariant-loop-var
invariant-loop-var l = record {
  levels : l.levels ++ levels_of (drop l.var-index l.vars) l.left.items ≡ levels_of l.vars l.fn.rows.items;
  left : run (drop l.var-index l.vars) l.left.items ≡ run l.vars l.fn.rows.items;
  fits : run_fits (drop l.var-index l.vars) l.left.items ≡ false → run_fits l.vars l.fn.rows.items ≡ false;
}
