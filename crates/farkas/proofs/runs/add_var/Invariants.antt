use Rattle.std.proofs.Common.{◌≡◌, ◌≤◌, ◌-◌, drop, take, ◌++◌, vec_len}
use Rattle.farkas.specs.Deciding.{with_one_var}
use Rattle.farkas.proofs.runs.add_var.Given as goal

abbrev pub invariant-loop-index : goal.invariant-loop-index
invariant-loop-index l = record {
  told : take l.index l.vars.items ++ with_one_var l.var (drop l.index l.vars.items) ≡ with_one_var l.var l.vars.items;
  within : l.index ≤ vec_len l.vars;
  same : l.vars.items ≡ l.fn.vars.items;
}

abbrev pub decreases-loop-index : goal.decreases-loop-index
decreases-loop-index l = vec_len l.vars - l.index
