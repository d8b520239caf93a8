use Rattle.std.proofs.Common.{◌≡◌, ℕ, take}
use Rattle.graph_reduction.specs.Sets.{in_set}
use Rattle.graph_reduction.specs.FirstNodes.{row_added}
use Rattle.graph_reduction.proofs.nodes.add_row.Given as goal

abbrev pub invariant-loop-target : goal.invariant-loop-target
invariant-loop-target l = (t n u : ℕ) → in_set l.into t n u ≡ row_added (take l.target-index l.row) l.block (in_set l.fn.into) t n u
